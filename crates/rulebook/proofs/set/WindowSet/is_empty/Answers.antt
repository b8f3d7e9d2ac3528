use Rattle.std.proofs.Common.{arith}
use Rattle.rulebook.proofs.SetBits.{is_empty}
use Rattle.rulebook.proofs.set.WindowSet.is_empty.Goals as goal

pub returns : goal.returns
returns c = is_empty c.args.self.now (omega arith)
