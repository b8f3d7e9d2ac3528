use Rattle.std.proofs.Common.{rules}
use Rattle.pairs.proofs.MeaningLaws.{pair_means}
use Rattle.pairs.proofs.pair.Pair.check.Goals as goal

pub returns : goal.returns
returns c = record { equation = search rules; means = pair_means c.args.p c.args.q }
