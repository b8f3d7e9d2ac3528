-- What the product rule comes to, in words of placings.
use Rattle.std.proofs.Common.{◌≡◌, ℕ, true, ℤ, ◌*ℤ◌, arith}
use Rattle.std.proofs.lemmas.Int.{ints}
use Rattle.windows.specs.Sets.{eq_z}
use Rattle.windows.specs.SetLaws.{tests}
use Rattle.rulebook.specs.Tables.{place}
use Rattle.rulebook.specs.Rules.{Means}
use Rattle.rules.specs.Pointwise.{rule_of}
use Rattle.products.specs.Products.{product_rule}

pub product_means : (p q r : ℕ) → Means (rule_of (product_rule p q r)) (λ P. place P p *ℤ place P q ≡ place P r)
product_means p q r = record { only = λ P h. equal (place P p *ℤ place P q) (place P r) h; all = λ P h. back (place P p *ℤ place P q) (place P r) h }
  where
    equal : (v w : ℤ) → eq_z v w ≡ true → v ≡ w
    equal v w h = grind (arith, ints, tests)

    back : (v w : ℤ) → v ≡ w → eq_z v w ≡ true
    back v w h = grind (arith, ints, tests)
