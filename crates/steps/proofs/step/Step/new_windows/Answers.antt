use Rattle.std.proofs.Common.{map, pos, negsuc, arith}
use Rattle.std.proofs.lemmas.Int.{ints}
use Rattle.sets.specs.Masks.{mask_numbers, set_numbers}
use Rattle.windows.specs.SetLaws.{between_is}
use Rattle.sets.specs.MaskLaws.{some_mask}
use Rattle.steps.proofs.StepLaws.{none_written, both_written}
use Rattle.steps.proofs.Moves.{turned}
use Rattle.steps.proofs.step.Step.new_windows.Goals as goal

pub returns-in_default : goal.returns-in_default
returns-in_default c = none_written c.args.self.now.distance c.args.self.now.pair.p c.args.self.now.pair.q (map set_numbers c.args.rows.now) _ c.args.self.now.pair.apart c.in_default.ensures c.new.ensures

pub returns : goal.returns
returns c =
    let k = c.args.self.now.distance in
    let s = c.in-Some.first in
    let t = c.in-Some.second in
    let b = between_is (negsuc 62) (pos 63) k c.args.self.now.near in
    both_written k _ _ c.args.self.now.pair.p c.args.self.now.pair.q (map set_numbers c.args.rows.now) _ (mask_numbers s.mask) (mask_numbers t.mask) _ _ c.args.self.now.pair.apart (omega (arith, ints)) (turned k c.args.self.now.near) c.in-Some.ensures.0 c.in-Some.ensures.1 (some_mask s.mask s.some.0 s.some.1) (some_mask t.mask t.some.0 t.some.1) c.partnered.ensures c.partnered-2.ensures c.both.ensures
