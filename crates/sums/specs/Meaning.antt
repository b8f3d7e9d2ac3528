-- What a sum means, and what its check answers.
use Rattle.std.specs.Prelude.{◌≡◌, ℕ, Bool, List, Some, None, Ok, Err, Result}
use Rattle.rulebook.specs.Rules.{Rule}
use Rattle.rulebook.specs.declared.answer.BookRefusal.{BookRefusal}
use Rattle.bounded.specs.Lists.{items}
use Rattle.rules.specs.Pointwise.{rule_of}
use Rattle.sums.specs.Sums.{is_exact, sum_rule}
use Rattle.sums.specs.Questions.{given, sum_asks}
use Rattle.sums.specs.declared.posted.Term.{Term}
use Rattle.sums.specs.declared.posted.PostedSum.{PostedSum}
use Rattle.sums.specs.declared.sum.Sum.{Sum}

-- the terms of a sum
abbrev pub terms_of : Sum → List Term
terms_of s = items s.terms

-- the rule that a sum means
abbrev pub sum_meaning : Sum → Rule
sum_meaning s = rule_of (sum_rule (terms_of s) s.bound (is_exact s.relation))

-- the rule that a sum means as it is handed in
abbrev pub posted_meaning : PostedSum → Bool → Rule
posted_meaning p exact = rule_of (sum_rule (given p) p.bound exact)

-- the check gave a sum of the posted meaning where its questions refuse nothing, and else what they refuse it for
abbrev pub Checked : PostedSum → Bool → ℕ → Result Sum BookRefusal → Type 0
Checked p exact n (Ok s) = (sum_asks p n ≡ None) × (sum_meaning s ≡ posted_meaning p exact)
Checked p exact n (Err f) = sum_asks p n ≡ Some f
