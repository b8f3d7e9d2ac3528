use Rattle.windows.specs.SpanLaws.{back, row_is}
use Rattle.windows.proofs.span.SpanWindow.row.Goals as goal

pub returns : goal.returns
returns c =
    let b = back _ _ c.args.self.now.stands in
    simp (b.0, b.1) (row_is (record { lo = c.args.self.now.lo; hi = c.args.self.now.hi }) c.args.self.now.stands.0 c.args.self.now.stands.1 c.args.self.now.stands.2)
