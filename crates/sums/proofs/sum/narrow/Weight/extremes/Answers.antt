use Rattle.std.proofs.Common.{arith}
use Rattle.std.proofs.lemmas.Int.{ints, clamps}
use Rattle.sums.proofs.SumCode.{wide, ends_small, least_ends, greatest_ends}
use Rattle.sums.proofs.sum.narrow.Weight.extremes.Goals as goal

pub returns : goal.returns
returns c =
    let w = c.args.self.value in
    let span = c.args.span.now in
    let s = ends_small span.lo span.hi span.stands in
    let e = c.from-ends.ensures in
    let x = wide _ _ w span.lo c.from.ensures e.0 c.args.self.fits s.0 in
    let y = wide _ _ w span.hi c.from-2.ensures e.1 c.args.self.fits s.1 in
    let m = c.min.ensures.value in
    let n = c.max.ensures.value in
    let k = least_ends w span.lo span.hi span.stands.0 in
    let l = greatest_ends w span.lo span.hi span.stands.0 in
    record { least = (omega (arith, ints, clamps), (omega (arith, ints, clamps), omega (arith, ints, clamps))); greatest = (omega (arith, ints, clamps), (omega (arith, ints, clamps), omega (arith, ints, clamps))) }
