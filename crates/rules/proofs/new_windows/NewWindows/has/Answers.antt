use Rattle.std.proofs.Common.{◌∙◌, ◌==◌, rules}
use Rattle.std.proofs.lemmas.Iterator.{YieldsList-from_slice}
use Rattle.std.proofs.lemmas.Iterator.Search.{any_from_yields_List}
use Rattle.std.proofs.lemmas.List.{take_all}
use borrow.Author.Tests.{tests}
use Rattle.bounded.specs.Lists.{items}
use Rattle.rules.proofs.WritingLaws.{has_any_at}
use Rattle.rules.proofs.new_windows.NewWindows.has.Goals as goal

-- that all entries are asked is found by a search
pub returns : goal.returns
returns g c = any_from_yields_List (λ x. x.at == c.args.j) _ _ _ c.any.ensures.ran (YieldsList-from_slice (items c.args.self.now.list) (search (rules, take_all))) (λ x b q k. search (rules, tests)) ∙ has_any_at g.W.Window.numbers (items c.args.self.now.list) c.args.j
