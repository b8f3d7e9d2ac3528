use Rattle.std.proofs.Common.{sym}
use Rattle.sets.specs.MaskLaws.{size_mask}
use Rattle.sets.proofs.set.SetWindow.size.Goals as goal

pub returns : goal.returns
returns c = sym (size_mask _ c.args.self.now.some.1)
