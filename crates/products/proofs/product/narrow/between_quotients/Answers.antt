use Rattle.std.proofs.Common.{sym, ◌∙◌, ap₂, arith, w64, SFits, rules}
use Rattle.std.specs.Int.{int_min, int_max}
use Rattle.std.proofs.lemmas.Int.{ints, to_z-of_z}
use Rattle.windows.specs.Sets.{between}
use Rattle.products.proofs.ProductCode.{among_right}
use Rattle.products.proofs.product.narrow.between_quotients.Goals as goal

pub returns : goal.returns
returns c v =
    let r = c.requires in
    let fa : SFits w64 c.args.dividend.from = search rules in
    let fb : SFits w64 c.args.dividend.to = search rules in
    let fc : SFits w64 c.args.divisor.from = search rules in
    let fd : SFits w64 c.args.divisor.to = search rules in
    let g1 : SFits w64 c.ceiling.result = search rules in
    let g2 : SFits w64 c.ceiling-2.result = search rules in
    let g3 : SFits w64 c.div_euclid.result = search rules in
    let g4 : SFits w64 c.div_euclid-2.result = search rules in
    let gl : SFits w64 c.min.result = search rules in
    let gh : SFits w64 c.max.result = search rules in
    let l = simp to_z-of_z at c.min.ensures.value in
    let h = simp to_z-of_z at c.max.ensures.value in
    let x = simp to_z-of_z at c.ceiling.ensures in
    let y = simp to_z-of_z at c.ceiling-2.ensures in
    let z = simp to_z-of_z at c.div_euclid.ensures in
    let w = simp to_z-of_z at c.div_euclid-2.ensures in
    let e = among_right c.args.dividend.from c.args.dividend.to c.args.divisor.from c.args.divisor.to v (omega (arith, ints)) (omega (arith, ints)) (omega (arith, ints)) in
    simp to_z-of_z (e ∙ ap₂ (λ p q. between p q v) (sym (l ∙ ap₂ int_min x y)) (sym (h ∙ ap₂ int_max z w)))
