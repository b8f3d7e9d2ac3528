-- `==` of two ends of a span.
use Rattle.std.proofs.Common.{◌≡◌, ℤ, arith}
use Rattle.std.specs.Ordering.{int_eq}
use Rattle.std.proofs.lemmas.Bool.Decides.{Decides-int_eq}
use Rattle.windows.specs.Sets.{eq_z}
use Rattle.windows.specs.SetLaws.{tests}

pub ends_same : (a b : ℤ) → int_eq a b ≡ eq_z a b
ends_same a b = let d = Decides-int_eq a b in grind (arith, d, tests)
