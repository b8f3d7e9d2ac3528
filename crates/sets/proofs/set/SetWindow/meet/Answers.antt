use Rattle.sets.specs.MaskLaws.{meet_mask}
use Rattle.sets.proofs.set.SetWindow.meet.Goals as goal

pub returns : goal.returns
returns c = rw meet_mask c.from_mask.ensures
