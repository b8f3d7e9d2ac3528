use Rattle.std.proofs.Common.{◌^◌, ◌<◌, arith}
use Rattle.std.proofs.lemmas.Int.{to_z-of_z}
use Rattle.steps.proofs.Moves.{partnered_is}
use Rattle.steps.proofs.step.narrow.partnered.Goals as goal

pub returns : goal.returns
returns c =
    let f = c.ranges.k in
    let own : c.row-2.result.mask < 2 ^ 64 = omega arith in
    let other : c.row.result.mask < 2 ^ 64 = omega arith in
    let moved = simp to_z-of_z at c.moved_back-mask.ensures in
    partnered_is c.row-2.result c.row.result c.args.own.now.mask c.args.other.now.mask c.moved_back-mask.result c.args.k c.from_row.result own other c.row-2.ensures c.row.ensures moved c.from_row.ensures
