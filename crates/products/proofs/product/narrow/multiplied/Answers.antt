use Rattle.std.proofs.Common.{w64, SFits, rules}
use Rattle.std.proofs.lemmas.Int.{to_z-of_z}
use Rattle.products.proofs.ProductSteps.{multiplied_is}
use Rattle.products.proofs.product.narrow.multiplied.Goals as goal

pub returns : goal.returns
returns c =
    let f : SFits w64 c.products-kept.result.from = search rules in
    let g : SFits w64 c.products-kept.result.to = search rules in
    multiplied_is c.args.u.now.lo c.args.u.now.hi c.args.s.now.lo c.args.s.now.hi c.args.t.now.lo c.args.t.now.hi _ _ c.clipped.result c.products-kept.ensures.least c.products-kept.ensures.greatest (simp to_z-of_z at c.clipped.ensures)
