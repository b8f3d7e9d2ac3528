use Rattle.std.proofs.Common.{◌∙◌, rules}
use Rattle.std.proofs.lemmas.Iterator.{YieldsList-from_slice}
use Rattle.std.proofs.lemmas.Iterator.Search.{any_from_yields_List}
use borrow.Author.Tests.{tests}
use Rattle.bounded.specs.Lists.{items}
use Rattle.rules.specs.Books.{slot_rule}
use Rattle.rules.proofs.BookLaws.{some_is}
use Rattle.rules.proofs.book.Book.some_reads.Goals as goal

pub returns : goal.returns
returns g c = any_from_yields_List (λ o. (slot_rule g.R.BookRule.rule o).reads c.args.j) _ _ _ c.any.ensures.ran (YieldsList-from_slice (items c.args.self.now.rules) cc) (λ x b q k. search (rules, tests)) ∙ some_is g.R.BookRule.rule (items c.args.self.now.rules) c.args.j
