use Rattle.std.proofs.Common.{arith}
use Rattle.std.proofs.lemmas.Bool.Decides.{nat_tests}
use Rattle.windows.specs.SetLaws.{tests}
use Rattle.windows.specs.SpanLaws.{bits_same}
use Rattle.listing.proofs.Ends.{ends_same}
use Rattle.listing.proofs.shown.SpanRowShown.is_same.Goals as goal

-- two rows are the same where their ends are, whether they are compared whole or end by end
pub returns : goal.returns
returns c = grind (arith, nat_tests, tests, ends_same, bits_same)
