use Rattle.std.proofs.Common.{arith}
use Rattle.bounded.proofs.GapLaws.{removed_some, removed_none}
use Rattle.bounded.proofs.list.BoundedList.remove.Goals as goal

pub returns-then-k-len : goal.returns-then-k-len
returns-then-k-len g c = removed_none c.args.self.now.slots c.args.k c.args.self.now.len c.if-k-len.true

pub returns : goal.returns
returns g c = removed_some c.args.self.now.slots c.close_gap.new.slots c.args.k c.args.self.now.len _ c.if-k-len.false (omega (arith, c.args.self.now.few, c.args.self.now.whole)) c.close_gap.ensures.items
