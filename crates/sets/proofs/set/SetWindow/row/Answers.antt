use Rattle.sets.specs.MaskLaws.{row_is}
use Rattle.sets.proofs.set.SetWindow.row.Goals as goal

pub returns : goal.returns
returns c = row_is (record { mask = c.args.self.now.mask }) c.args.self.now.some.0 c.args.self.now.some.1
