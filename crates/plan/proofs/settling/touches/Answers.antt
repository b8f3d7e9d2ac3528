use Rattle.std.proofs.Common.{◌∙◌, refl, rules, arith}
use Rattle.std.proofs.lemmas.Iterator.{YieldsList-from_range}
use Rattle.std.proofs.lemmas.Iterator.Search.{any_from_yields_List}
use borrow.Author.Tests.{tests}
use Rattle.plan.specs.Rows.{hits}
use Rattle.plan.proofs.AnyLaws.{any_in_range}
use Rattle.plan.proofs.settling.touches.Goals as goal

pub returns : goal.returns
returns g c =
    let hit = hits (g.B.RuleBook.rules c.args.book.now) c.args.changes c.args.i in
    any_from_yields_List hit _ _ _ c.any.ensures.ran (YieldsList-from_range 0 c.args.windows c.args.windows refl (omega arith)) (λ x b q k. search (rules, tests)) ∙ any_in_range hit c.args.windows
