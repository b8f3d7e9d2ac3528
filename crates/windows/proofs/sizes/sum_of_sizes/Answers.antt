use Rattle.std.proofs.Common.{length, ap, arith}
use Rattle.windows.proofs.KindLaws.{few}
use Rattle.windows.proofs.SizeLaws.{sizes_more, sizes_all}
use Rattle.windows.proofs.sizes.sum_of_sizes.Goals as goal
use Rattle.windows.proofs.sizes.sum_of_sizes.Goals.{in-Some, in_default}

pub overflow_add-sum : goal.overflow_add-sum
overflow_add-sum g c =
    let f = few g.W.Window.kind g.met.W.Window.proper _ (g.met.W.Window.kinds c.in-Some.window) in
    omega (arith, c.size.ensures, c.from-sum.ensures, c.loop-row.invariant.1)

pub loop-row-preserved : goal.loop-row-preserved
loop-row-preserved g c =
    elim c.match-from_row.branch [ in-Some w ↦ let f = few g.W.Window.kind g.met.W.Window.proper _ (g.met.W.Window.kinds w.in-Some.window) in let s = ap length w.in-Some.ensures in (sizes_more g.W.Window.stands c.args.rows.now c.loop-row.row-index c.row-item.result c.loop-row.sum c.match-from_row.sum _ c.loop-row-test.true c.row-item.is c.loop-row.invariant.0 (omega arith), omega (arith, c.loop-row.invariant.1)) | in_default w ↦ let s = ap length w.in_default.ensures in (sizes_more g.W.Window.stands c.args.rows.now c.loop-row.row-index c.row-item.result c.loop-row.sum c.match-from_row.sum _ c.loop-row-test.true c.row-item.is c.loop-row.invariant.0 (omega arith), omega (arith, c.loop-row.invariant.1)) ]

pub returns : goal.returns
returns g c = sizes_all g.W.Window.stands c.args.rows.now c.loop-row.row-index c.loop-row.sum _ c.loop-row-test.false c.loop-row.invariant.0
