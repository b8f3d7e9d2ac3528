use Rattle.std.proofs.Common.{ap, ◌∙◌, ap₂, w64, SFits, rules}
use Rattle.std.specs.Int.{int_min, int_max}
use Rattle.std.proofs.lemmas.Int.{to_z-of_z}
use Rattle.sums.proofs.SumCode.{ends_small}
use Rattle.products.proofs.ProductCode.{corner, joined_least, joined_greatest}
use Rattle.products.proofs.product.narrow.products.Goals as goal

pub returns : goal.returns
returns c =
    let p = c.args.p.now in
    let q = c.args.q.now in
    let s = ends_small p.lo p.hi p.stands in
    let t = ends_small q.lo q.hi q.stands in
    let e = c.ends-a.ensures in
    let f = c.ends-c.ensures in
    let w = corner _ _ _ p.lo q.lo c.times-w.ensures (ap (λ e. e.0) e) (ap (λ e. e.0) f) s.0 t.0 in
    let x = corner _ _ _ p.lo q.hi c.times-x.ensures (ap (λ e. e.0) e) (ap (λ e. e.1) f) s.0 t.1 in
    let y = corner _ _ _ p.hi q.lo c.times-y.ensures (ap (λ e. e.1) e) (ap (λ e. e.0) f) s.1 t.0 in
    let z = corner _ _ _ p.hi q.hi c.times-z.ensures (ap (λ e. e.1) e) (ap (λ e. e.1) f) s.1 t.1 in
    let fw : SFits w64 c.times-w.result = search rules in
    let fx : SFits w64 c.times-x.result = search rules in
    let fy : SFits w64 c.times-y.result = search rules in
    let fz : SFits w64 c.times-z.result = search rules in
    let fk : SFits w64 c.min.result = search rules in
    let fl : SFits w64 c.min-2.result = search rules in
    let fm : SFits w64 c.min-3.result = search rules in
    let fn : SFits w64 c.max.result = search rules in
    let fo : SFits w64 c.max-2.result = search rules in
    let fr : SFits w64 c.max-3.result = search rules in
    let m = simp to_z-of_z at c.min-3.ensures.value ∙ ap₂ int_min (simp to_z-of_z at c.min.ensures.value) (simp to_z-of_z at c.min-2.ensures.value) in
    let r = simp to_z-of_z at c.max-3.ensures.value ∙ ap₂ int_max (simp to_z-of_z at c.max.ensures.value) (simp to_z-of_z at c.max-2.ensures.value) in
    simp to_z-of_z (record { least = joined_least _ _ _ _ _ _ _ _ _ p.stands.0 q.stands.0 w x y z m; greatest = joined_greatest _ _ _ _ _ _ _ _ _ p.stands.0 q.stands.0 w x y z r })
