use Rattle.std.proofs.Common.{w32, w64, SFits, arith, rules}
use Rattle.std.proofs.lemmas.Int.{ints, clamps, to_z-of_z}
use Rattle.sums.proofs.QuestionLaws.{bound_is}
use Rattle.sums.proofs.SumSteps.{new_window_is}
use Rattle.sums.proofs.sum.Sum.new_window.Goals as goal

pub left_over-left-requires-clause-bound : goal.left_over-left-requires-clause-bound
left_over-left-requires-clause-bound c = let b = bound_is c.args.self.now.bound c.args.self.now.bounded in (omega (arith, ints, clamps), omega (arith, ints, clamps))

pub returns : goal.returns
returns c =
    let b = bound_is c.args.self.now.bound c.args.self.now.bounded in
    let fb : SFits w32 c.args.self.now.bound = omega (arith, ints) in
    let f0 : SFits w64 c.quotients-kept.result.from = search rules in
    let f1 : SFits w64 c.quotients-kept.result.to = search rules in
    let lv = c.extremes-own.ensures.least.0 in
    let gv = c.extremes-own.ensures.greatest.0 in
    let lo = simp to_z-of_z at c.left_over-left.ensures.least.0 in
    let hi = simp to_z-of_z at c.left_over-left.ensures.greatest.0 in
    let q = c.quotients-kept.ensures in
    new_window_is _ _ _ _ _ _ _ _ _ _ _ _ _ c.clipped.result c.args.span.now.stands lv gv lo hi q (simp to_z-of_z at c.clipped.ensures)
