use Rattle.std.proofs.Common.{sym, inl, inr, arith, w32}
use Rattle.std.proofs.lemmas.Int.{ints, to_z-of_z}
use Rattle.sets.specs.MaskLaws.{cleared_mask, all_but_outside}
use Rattle.sets.proofs.set.cleared.Goals as goal
use Rattle.sets.proofs.set.cleared.Goals.{else-v-ge0-via-then-v-ge0+else-v-lt64, else-v-ge0-via-else-v-ge0}

pub returns-then-v-lt64 : goal.returns-then-v-lt64
returns-then-v-lt64 c = cleared_mask c.args.mask _ c.args.v (to_z-of_z w32 c.args.v c.ranges.v) c.if-v-ge0.true c.if-v-lt64.true

pub returns-else-v-ge0 : goal.returns-else-v-ge0
returns-else-v-ge0 c =
    let f = c.ranges.v in
    sym (all_but_outside c.args.mask c.args.v (elim c.else-v-ge0.branch [ else-v-ge0-via-then-v-ge0+else-v-lt64 w ↦ inr (omega (arith, ints)) | else-v-ge0-via-else-v-ge0 w ↦ inl (omega (arith, ints)) ]))
