use Rattle.std.proofs.Common.{◌≡◌, sym, arith}
use Rattle.std.proofs.lemmas.Int.{ints}
use Rattle.windows.specs.SpanLaws.{back, sole_range_one, sole_range_more}
use Rattle.windows.proofs.span.SpanWindow.sole.Goals as goal

pub returns-then-self : goal.returns-then-self
returns-then-self c =
    let b = back _ _ c.args.self.now.stands in
    let e : c.args.self.now.lo ≡ c.args.self.now.hi = omega (arith, ints, c.if-self.true) in
    rw b.0 (sym (sole_range_one _ _ e))

pub returns-else-self : goal.returns-else-self
returns-else-self c =
    let s = c.args.self.now.stands in
    let h = c.if-self.false in
    sym (sole_range_more c.args.self.now.lo c.args.self.now.hi (omega (arith, ints)))
