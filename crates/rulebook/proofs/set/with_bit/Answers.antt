use Rattle.rulebook.proofs.SetBits.{bit_set}
use Rattle.rulebook.proofs.set.with_bit.Goals as goal

pub returns : goal.returns
returns c k = bit_set c.args.mask c.args.j k c.requires
