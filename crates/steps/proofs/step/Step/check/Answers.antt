use Rattle.std.proofs.Common.{◌≡◌, true, arith, w32}
use Rattle.std.proofs.lemmas.Int.{ints, to_z-of_z}
use Rattle.windows.specs.SetLaws.{tests}
use Rattle.steps.specs.Steps.{in_reach}
use Rattle.steps.proofs.StepLaws.{step_means, accepted}
use Rattle.steps.proofs.step.Step.check.Goals as goal

pub returns : goal.returns
returns c =
    let f = c.ranges.k in
    let a = c.in_ok-pair.ensures.equation in
    let r : in_reach c.args.k ≡ true = grind (arith, ints, tests) in
    record { equation = (accepted c.args.p c.args.q c.args.k c.args.n a.0 r, a.1, a.2, to_z-of_z w32 c.args.k f); means = step_means _ _ _ }
