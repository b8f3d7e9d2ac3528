use Rattle.std.proofs.Common.{arith}
use Rattle.std.proofs.lemmas.Int.{ints}
use Rattle.windows.specs.SpanLaws.{size_range}
use Rattle.windows.proofs.span.SpanWindow.size.Goals as goal

pub returns : goal.returns
returns c =
    let t = c.args.self.now.stands in
    let s = size_range _ _ t.0 in
    omega (arith, ints)
