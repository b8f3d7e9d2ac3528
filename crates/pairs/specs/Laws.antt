-- What the rules on two windows come to, in words of placings.
use Rattle.std.specs.Prelude.{◌≡◌, ℕ, ◌≢◌}
use Rattle.windows.specs.Kinds.{Kind}
use Rattle.rulebook.specs.Tables.{place}
use Rattle.rulebook.specs.Rules.{Means}
use Rattle.rules.specs.Pointwise.{rule_of}
use Rattle.pairs.specs.Pairs.{differ_rule, same_rule}

-- differ allows exactly the placings whose numbers for windows p and q are not equal, whatever the kind, and same exactly those
-- whose numbers are equal
pub record PairMeans (p q : ℕ) : Type 0 where
  pub differ : (k : Kind) → Means (rule_of (differ_rule k p q)) (λ P. place P p ≢ place P q)
  pub same : Means (rule_of (same_rule p q)) (λ P. place P p ≡ place P q)
