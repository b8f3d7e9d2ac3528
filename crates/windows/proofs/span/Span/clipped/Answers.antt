use Rattle.std.proofs.Common.{ap₂, arith}
use Rattle.std.proofs.lemmas.Int.{ints, clamps}
use Rattle.windows.specs.Sets.{range}
use Rattle.windows.specs.SetLaws.{range_none}
use Rattle.windows.proofs.span.Span.clipped.Goals as goal

pub returns-then-lo-hi : goal.returns-then-lo-hi
returns-then-lo-hi c =
    let s = c.args.self.now.stands in
    let x = c.from.ensures in
    let y = c.from-2.ensures in
    let l = c.max-lo.ensures.value in
    let h = c.min-hi.ensures.value in
    let ff = c.ranges.from in
    let ft = c.ranges.to in
    let t = c.if-lo-hi.true in
    range_none _ _ (omega (arith, ints, clamps))

pub returns : goal.returns
returns c =
    let s = c.args.self.now.stands in
    let x = c.from.ensures in
    let y = c.from-2.ensures in
    let l = c.max-lo.ensures.value in
    let h = c.min-hi.ensures.value in
    let ff = c.ranges.from in
    let ft = c.ranges.to in
    let t = c.if-lo-hi.false in
    ap₂ range (omega (arith, ints, clamps)) (omega (arith, ints, clamps))

pub invariant_of-result : goal.invariant_of-result
invariant_of-result c =
    let s = c.args.self.now.stands in
    let x = c.from.ensures in
    let y = c.from-2.ensures in
    let l = c.max-lo.ensures.value in
    let h = c.min-hi.ensures.value in
    let ff = c.ranges.from in
    let ft = c.ranges.to in
    let t = c.if-lo-hi.false in
    record { stands = (omega (arith, ints, clamps), omega (arith, ints, clamps), omega (arith, ints, clamps)) }
