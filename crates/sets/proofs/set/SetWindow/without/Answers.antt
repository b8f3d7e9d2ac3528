use Rattle.std.proofs.lemmas.Int.{to_z-of_z}
use Rattle.sets.specs.MaskLaws.{parts_of}
use Rattle.sets.proofs.MadeLaws.{set_smallest}
use Rattle.sets.proofs.set.SetWindow.without.Goals as goal

pub returns : goal.returns
returns c =
    let s = c.args.self.now.some in
    let f = c.ranges.v in
    let e = simp to_z-of_z at c.cleared.ensures in
    let t = rw e at c.from_mask.ensures in
    record { equation = t; smallest = set_smallest c.from_mask.result _ c.args.v (parts_of c.args.self.now.mask s.0 s.1) t }
