-- What the product rule comes to, in words of placings.
use Rattle.std.specs.Prelude.{◌≡◌, ℕ, ◌*ℤ◌, Ok, Err, Result}
use Rattle.rulebook.specs.Tables.{place}
use Rattle.rulebook.specs.Rules.{Means}
use Rattle.rulebook.specs.declared.answer.BookRefusal.{BookRefusal}
use Rattle.rules.specs.Pointwise.{rule_of}
use Rattle.products.specs.Products.{product_rule}
use Rattle.products.specs.declared.product.Product.{Product}

-- an accepted product allows exactly the placings where window p's number times window q's number is window r's
abbrev pub ProductMeans : ℕ → ℕ → ℕ → Result Product BookRefusal → Type 0
ProductMeans p q r (Ok x) = Means (rule_of (product_rule x.p x.q x.r)) (λ P. place P p *ℤ place P q ≡ place P r)
ProductMeans p q r (Err f) = Unit {0}
