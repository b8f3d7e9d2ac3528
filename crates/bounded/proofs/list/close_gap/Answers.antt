use Rattle.std.proofs.Common.{refl}
use Rattle.bounded.proofs.GapLaws.{closed}
use Rattle.bounded.proofs.list.close_gap.Goals as goal

pub returns-clause-items : goal.returns-clause-items
returns-clause-items g c = closed c.args.slots.now c.args.k c.args.len _ _ c.requires.place c.requires.room refl c.rotate_left.ensures.after
