use Rattle.std.proofs.Common.{arith}
use Rattle.std.proofs.lemmas.Bool.Decides.{nat_tests}
use Rattle.windows.specs.SpanLaws.{alike_ends, alike_is}
use Rattle.windows.proofs.span.SpanWindow.alike.Goals as goal

-- two spans are alike where their ends are the same, whether they are compared whole or end by end
pub returns : goal.returns
returns c =
    let whole = alike_ends _ _ _ _ c.args.self.now.stands c.args.other.now.stands in
    let by_ends = alike_is _ _ _ _ c.args.self.now.stands c.args.other.now.stands in
    grind (arith, nat_tests)
