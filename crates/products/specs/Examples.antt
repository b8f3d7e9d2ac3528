-- Narrowings by the product rule, computed.
use Rattle.std.specs.Prelude.{◌≡◌, [], ◌∷◌, pos, negsuc, refl}
use Rattle.windows.specs.Sets.{eq_z, count, range}
use Rattle.rulebook.specs.Rules.{narrowed, emptied}
use Rattle.rules.specs.Pointwise.{judged, make_all, narrow_by, rule_of}
use Rattle.products.specs.Products.{multiplied, weakly_divides, divided, product_new, product_rule}

-- [155..161] : [9..11] is [15..17], though 16 is the only quotient without a rest
rounded : (rule_of (product_rule 0 1 2)).narrow (range (pos 1) (pos 20) ∷ (range (pos 9) (pos 11) ∷ (range (pos 155) (pos 161) ∷ []))) ≡ narrowed (range (pos 15) (pos 17) ∷ (range (pos 9) (pos 11) ∷ (range (pos 155) (pos 161) ∷ [])))
unfolding eq_z count range judged make_all narrow_by multiplied weakly_divides divided product_new
rounded = refl

-- [1..2] : [-1..1] is [-2..2]
signs : (rule_of (product_rule 0 1 2)).narrow (range (negsuc 2) (pos 3) ∷ (range (negsuc 0) (pos 1) ∷ (range (pos 1) (pos 2) ∷ []))) ≡ narrowed (range (negsuc 1) (pos 2) ∷ (range (negsuc 0) (pos 1) ∷ (range (pos 1) (pos 2) ∷ [])))
unfolding eq_z count range judged make_all narrow_by multiplied weakly_divides divided product_new
signs = refl

-- [1..9] : [0..0] is empty
no_quotient : (rule_of (product_rule 0 1 2)).narrow (range (pos 5) (pos 5) ∷ (range (pos 0) (pos 0) ∷ (range (pos 1) (pos 9) ∷ []))) ≡ emptied 0
unfolding eq_z count range judged make_all narrow_by multiplied weakly_divides divided product_new
no_quotient = refl
