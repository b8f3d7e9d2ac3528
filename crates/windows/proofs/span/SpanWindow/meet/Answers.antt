use Rattle.std.proofs.Common.{ap₂, ◌∙◌, sym, arith, w32, to_z, of_z, ◌≡◌}
use Rattle.std.proofs.lemmas.Int.{ints, clamps}
use Rattle.windows.specs.Sets.{range, meet}
use Rattle.windows.specs.SpanLaws.{meet_range}
use Rattle.windows.proofs.span.SpanWindow.meet.Goals as goal

pub returns : goal.returns
returns c =
    let a = c.args.self.now in
    let b = c.args.other.now in
    let s = a.stands in
    let t = b.stands in
    let l = c.max.ensures.value in
    let h = c.min.ensures.value in
    let q : range (to_z w32 (of_z w32 c.max.result)) (to_z w32 (of_z w32 c.min.result)) ≡ meet (range a.lo a.hi) (range b.lo b.hi) = ap₂ range (omega (arith, ints, clamps)) (omega (arith, ints, clamps)) ∙ sym (meet_range a.lo a.hi b.lo b.hi) in
    rw q at c.from_ends.ensures
