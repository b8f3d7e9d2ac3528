use Rattle.std.proofs.Common.{◌-◌, ◌^◌, ◌<◌, Some, sym, refl, ap, ◌∙◌, arith, w32}
use lib.Count.{count_leading_zeros}
use Rattle.std.proofs.lemmas.Int.{to_z_pos}
use Rattle.std.proofs.lemmas.Nat.{one_shl}
use Rattle.sets.specs.MaskLaws.{sole_top_one, sole_top_more}
use Rattle.sets.proofs.set.only.Goals as goal

pub returns-then-mask-top : goal.returns-then-mask-top
returns-then-mask-top c =
    let f : c.args.mask < 2 ^ 64 = omega (arith, c.ranges.mask) in
    let z = 63 - count_leading_zeros 64 c.args.mask in
    ap Some (to_z_pos w32 z (omega arith)) ∙ sym (sole_top_one _ z c.requires f refl (c.if-mask-top.true ∙ one_shl z 64 (omega arith)))

pub returns-else-mask-top : goal.returns-else-mask-top
returns-else-mask-top c =
    let f : c.args.mask < 2 ^ 64 = omega (arith, c.ranges.mask) in
    let z = 63 - count_leading_zeros 64 c.args.mask in
    sym (sole_top_more _ z c.requires f refl (λ e. c.if-mask-top.false (e ∙ sym (one_shl z 64 (omega arith)))))
