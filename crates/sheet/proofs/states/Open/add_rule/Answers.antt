use Rattle.std.proofs.Common.{List, ap, rules}
use Rattle.rulebook.specs.Rules.{Rule}
use Rattle.books.specs.DayBooks.{day_rules}
use Rattle.sheet.specs.Reading.{Sheet, view}
use Rattle.sheet.proofs.WindowLaws.{refused_rules}
use Rattle.sheet.proofs.states.Open.add_rule.Goals as goal

pub returns-in_err-post-clause-kept : goal.returns-in_err-post-clause-kept
returns-in_err-post-clause-kept c =
    let s = view c.args.self.now c.args.lent.now in
    let same = ap {B = Sheet} (λ (rules : List Rule). record { at = s.at; stage = s.stage; windows = s.windows; lent = record { rules = rules; rows = s.lent.rows; store = s.lent.store } }) (refused_rules (day_rules c.args.lent.now.book.now) _ _ _ _ c.in_err-post.ensures) in
    search (rules, same)
