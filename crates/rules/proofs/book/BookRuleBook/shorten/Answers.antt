use Rattle.std.proofs.Common.{ap, ◌∙◌, sym}
use Rattle.std.proofs.lemmas.List.{take-map}
use Rattle.bounded.specs.Lists.{items}
use Rattle.rules.specs.Books.{slot_rule, slot_rules}
use Rattle.rules.proofs.book.BookRuleBook.shorten.Goals as goal

pub returns : goal.returns
returns g c = ap (slot_rules g.R.BookRule.rule) c.truncate.ensures ∙ sym (take-map (slot_rule g.R.BookRule.rule) c.args.k (items c.args.self.now.rules))
