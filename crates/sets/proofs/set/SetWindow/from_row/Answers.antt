use Rattle.std.proofs.Common.{arith}
use Rattle.sets.specs.MaskLaws.{row_fits}
use Rattle.sets.proofs.set.SetWindow.from_row.Goals as goal

pub returns : goal.returns
returns c = rw (row_fits c.args.row (omega arith)) c.from_mask.ensures
