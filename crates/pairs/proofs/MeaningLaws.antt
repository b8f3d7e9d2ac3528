-- What the rules on two windows come to, in words of placings.
use Rattle.std.proofs.Common.{◌≡◌, ℕ, true, not, ℤ, arith}
use Rattle.std.proofs.lemmas.Int.{ints}
use Rattle.windows.specs.Sets.{eq_z}
use Rattle.windows.specs.Kinds.{Kind}
use Rattle.windows.specs.SetLaws.{tests}
use Rattle.rulebook.specs.Tables.{place}
use Rattle.rulebook.specs.Rules.{Means}
use Rattle.rules.specs.Pointwise.{rule_of}
use Rattle.pairs.specs.Pairs.{differ_rule, same_rule}
use Rattle.pairs.specs.Laws.{PairMeans}

differ_means : (k : Kind) (p q : ℕ) → Means (rule_of (differ_rule k p q)) (λ P. place P p ≡ place P q → ⊥)
differ_means k p q = record { only = λ P h. differs (place P p) (place P q) h; all = λ P h. back (place P p) (place P q) h }
  where
    differs : (v w : ℤ) → not (eq_z v w) ≡ true → v ≡ w → ⊥
    differs v w h e = grind (arith, ints, tests)

    back : (v w : ℤ) → (v ≡ w → ⊥) → not (eq_z v w) ≡ true
    back v w h = grind (arith, ints, tests)

same_means : (p q : ℕ) → Means (rule_of (same_rule p q)) (λ P. place P p ≡ place P q)
same_means p q = record { only = λ P h. equal (place P p) (place P q) h; all = λ P h. back (place P p) (place P q) h }
  where
    equal : (v w : ℤ) → eq_z v w ≡ true → v ≡ w
    equal v w h = grind (arith, ints, tests)

    back : (v w : ℤ) → v ≡ w → eq_z v w ≡ true
    back v w h = grind (arith, ints, tests)

pub pair_means : (p q : ℕ) → PairMeans p q
pair_means p q = record { differ = λ k. differ_means k p q; same = same_means p q }
