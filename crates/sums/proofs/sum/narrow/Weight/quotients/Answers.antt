use Rattle.std.proofs.Common.{pos, ◌-ℤ◌, arith, w64, SFits}
use Rattle.std.proofs.lemmas.Int.{ints, clamps, to_z-of_z}
use Rattle.sums.specs.Sums.{is_exact}
use Rattle.sums.proofs.SumCode.{computed, quotients_pos, quotients_neg}
use Rattle.sums.proofs.sum.narrow.Weight.quotients.Goals as goal

pub returns-then-self-gt0 : goal.returns-then-self-gt0
returns-then-self-gt0 c v l h =
    let r = c.requires in
    let k = computed _ c.args.self.value c.args.left.from c.args.left.to c.abs-size.result c.div_euclid-above.result c.depth-below.result (is_exact c.args.relation) c.from.ensures c.abs-size.ensures.value c.div_euclid-above.ensures c.depth-below.ensures.value c.args.self.fits r.0 r.1 in
    let a = k.small in
    let b = c.depth-below.ensures.bound in
    let t = c.if-self-gt0.true in
    let fa : SFits w64 c.div_euclid-above.result = omega (arith, ints) in
    let fb : SFits w64 c.depth-below.result = omega (arith, ints) in
    let fn : SFits w64 (pos 0 -ℤ c.depth-below.result) = omega (arith, ints) in
    simp to_z-of_z (quotients_pos c.args.self.value _ _ _ _ _ _ (omega (arith, ints, clamps)) k.size k.above k.below v l)

pub returns-else-self-gt0 : goal.returns-else-self-gt0
returns-else-self-gt0 c v l h =
    let r = c.requires in
    let n = c.args.self.fits.2 in
    let k = computed _ c.args.self.value c.args.left.from c.args.left.to c.abs-size.result c.div_euclid-above.result c.depth-below.result (is_exact c.args.relation) c.from.ensures c.abs-size.ensures.value c.div_euclid-above.ensures c.depth-below.ensures.value c.args.self.fits r.0 r.1 in
    let a = k.small in
    let b = c.depth-below.ensures.bound in
    let t = c.if-self-gt0.false in
    let fa : SFits w64 c.div_euclid-above.result = omega (arith, ints) in
    let fb : SFits w64 c.depth-below.result = omega (arith, ints) in
    let fn : SFits w64 (pos 0 -ℤ c.div_euclid-above.result) = omega (arith, ints) in
    simp to_z-of_z (quotients_neg c.args.self.value _ _ _ _ _ _ (omega (arith, ints, clamps)) k.size k.above k.below v h)
