use Rattle.std.proofs.Common.{◌≡◌, ap, ◌∙◌, arith}
use Rattle.sets.specs.Masks.{mask_numbers}
use Rattle.sets.specs.MaskLaws.{none_mask}
use Rattle.sets.proofs.set.Set.from_mask.Goals as goal

pub returns-else-mask-gt0 : goal.returns-else-mask-gt0
returns-else-mask-gt0 c = let z : c.args.mask ≡ 0 = omega arith in ap mask_numbers z ∙ none_mask
