use Rattle.std.proofs.Common.{◌≡◌, ℕ, ◌+◌, List, Some, None, Option, refl, sym, ◌∙◌, rules}
use Rattle.std.specs.Option.{MatchOption}
use borrow.Author.Tests.{tests}
use Rattle.rulebook.specs.Rules.{Rule}
use Rattle.rulebook.specs.Answers.{reach_of}
use Rattle.rules.specs.Books.{book_rules}
use Rattle.rules.proofs.BookLaws.{reach_found}
use Rattle.rules.proofs.book.BookRuleBook.reach.Goals as goal

pub returns : goal.returns
returns g c = go c.rposition.result refl (reach_found held _ _ _ c.rposition.result refl c.rposition.ensures.ran (λ x b q k. search (rules, tests)))
  where
    held : List Rule
    held = book_rules g.R.BookRule.rule c.args.self.now

    go : (r : Option ℕ) → c.rposition.result ≡ r → MatchOption r (reach_of held 64 ≡ 0) (λ i. reach_of held 64 ≡ i + 1) → c.map_or.result ≡ reach_of held 64
    go None e m = (search rules) ∙ sym m
    go (Some i) e m = (search rules) ∙ sym m
