use Rattle.std.proofs.Common.{arith}
use Rattle.std.proofs.lemmas.Int.{ints, clamps}
use Rattle.sums.proofs.sum.narrow.left_over.Goals as goal

pub returns : goal.returns
returns c =
    let x = c.from.ensures in
    let y = c.from-2.ensures in
    record { least = (omega (arith, ints, clamps), (omega (arith, ints, clamps), omega (arith, ints, clamps))); greatest = (omega (arith, ints, clamps), (omega (arith, ints, clamps), omega (arith, ints, clamps))) }
