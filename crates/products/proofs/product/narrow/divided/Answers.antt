use Rattle.std.proofs.Common.{w64, SFits, rules}
use Rattle.std.proofs.lemmas.Int.{to_z-of_z}
use Rattle.products.proofs.ProductSteps.{divided_is}
use Rattle.products.proofs.product.narrow.divided.Goals as goal

pub returns : goal.returns
returns c =
    let f : SFits w64 c.weak_quotients-kept.result.from = search rules in
    let g : SFits w64 c.weak_quotients-kept.result.to = search rules in
    divided_is c.args.s.now.lo c.args.s.now.hi c.args.u.now.lo c.args.u.now.hi c.args.t.now.lo c.args.t.now.hi _ _ c.clipped.result c.args.s.now.stands c.args.u.now.stands.0 c.args.t.now.stands.0 c.weak_quotients-kept.ensures (simp to_z-of_z at c.clipped.ensures)
