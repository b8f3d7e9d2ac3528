use Rattle.std.proofs.Common.{rules}
use Rattle.windows.specs.SpanLaws.{bits_same}
use Rattle.listing.proofs.shown.SpanRowShown.is_one.Goals as goal

pub returns : goal.returns
returns c = search (rules, bits_same)
