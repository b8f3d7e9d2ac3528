use Rattle.std.proofs.Common.{sym, ◌∙◌}
use Rattle.std.proofs.lemmas.Bool.{not-true}
use Rattle.rulebook.specs.Answers.{any, member}
use Rattle.plan.proofs.RunLaws.{nothing_woken}
use Rattle.plan.proofs.settling.wake.Goals as goal

pub returns-else-not-is_empty : goal.returns-else-not-is_empty
returns-else-not-is_empty g c =
    let changes = c.args.changes in
    sym (nothing_woken (g.B.RuleBook.rules c.args.book.now) changes c.args.windows (g.P.Policy.waiting c.args.policy.now) (not-true (any (member changes) 64) (sym c.is_empty.ensures ∙ c.if-not-is_empty.false)))
