use Rattle.std.proofs.Common.{arith}
use Rattle.std.proofs.lemmas.Int.{ints}
use Rattle.windows.specs.SetLaws.{range_none}
use Rattle.windows.proofs.span.Span.from_ends.Goals as goal

pub returns-else-lo-hi : goal.returns-else-lo-hi
returns-else-lo-hi c = let h = c.if-lo-hi.false in range_none _ _ (omega (arith, ints))
