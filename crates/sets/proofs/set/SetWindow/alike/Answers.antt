use Rattle.std.proofs.Common.{arith}
use Rattle.std.proofs.lemmas.Bool.Decides.{nat_tests}
use Rattle.sets.specs.MaskLaws.{alike_mask}
use Rattle.sets.proofs.set.SetWindow.alike.Goals as goal

-- two sets are alike where their masks are the same, whether the sets are compared or their masks
pub returns : goal.returns
returns c =
    let by_masks = alike_mask _ _ c.args.self.now.some.1 c.args.other.now.some.1 in
    grind (arith, nat_tests)
