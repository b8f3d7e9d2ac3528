use Rattle.std.proofs.Common.{pos, negsuc, arith, w32}
use Rattle.std.proofs.lemmas.Int.{ints, to_z-of_z}
use Rattle.windows.specs.SetLaws.{between_is}
use Rattle.steps.proofs.Moves.{moved_down, moved_up, turned}
use Rattle.steps.proofs.step.narrow.moved_back.Goals as goal

pub returns-then-k-ge0 : goal.returns-then-k-ge0
returns-then-k-ge0 c =
    let f = c.ranges.k in
    let g = c.ranges.mask in
    moved_down c.args.mask _ c.args.k (to_z-of_z w32 c.args.k f) (omega arith) (omega (arith, ints))

pub returns-else-k-ge0 : goal.returns-else-k-ge0
returns-else-k-ge0 c =
    let f = c.ranges.k in
    let b = between_is (negsuc 62) (pos 63) c.args.k c.requires in
    moved_up c.args.mask _ c.args.k (turned c.args.k c.requires) (omega (arith, ints))
