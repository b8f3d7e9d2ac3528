use Rattle.std.proofs.Common.{◌≡◌, ap₂, sym, ◌∙◌, arith, w32, to_z, of_z}
use Rattle.std.proofs.lemmas.Int.{ints, to_z-of_z}
use Rattle.windows.specs.Sets.{range}
use Rattle.windows.specs.Kinds.{spans, all_but}
use Rattle.windows.specs.SpanLaws.{span_of, fits_lo, fits_hi, all_but_ends, moved_low, moved_high}
use Rattle.windows.proofs.SmallestLaws.{span_smallest}
use Rattle.windows.proofs.span.SpanWindow.without.Goals as goal

pub from_ends-requires : goal.from_ends-requires
from_ends-requires c =
    let s = c.args.self.now.stands in
    let fl = fits_lo _ _ s in
    let fh = fits_hi _ _ s in
    let fv = c.ranges.v in
    let l = simp to_z-of_z at c.moved.ensures in
    let h = simp to_z-of_z at c.moved-2.ensures in
    let x = moved_low _ _ c.args.v s in
    let y = moved_high _ _ c.args.v s in
    (omega (arith, ints), omega (arith, ints))

pub returns : goal.returns
returns c =
    let s = c.args.self.now.stands in
    let fl = fits_lo _ _ s in
    let fh = fits_hi _ _ s in
    let fv = c.ranges.v in
    let l = simp to_z-of_z at c.moved.ensures in
    let h = simp to_z-of_z at c.moved-2.ensures in
    let x = moved_low _ _ c.args.v s in
    let y = moved_high _ _ c.args.v s in
    let q : range (to_z w32 (of_z w32 c.moved.result)) (to_z w32 (of_z w32 c.moved-2.result)) ≡ all_but spans (range c.args.self.now.lo c.args.self.now.hi) c.args.v = ap₂ range (omega (arith, ints)) (omega (arith, ints)) ∙ sym (all_but_ends c.args.self.now.lo c.args.self.now.hi c.args.v s.0) in
    let t = rw q at c.from_ends.ensures in
    record { equation = t; smallest = span_smallest c.from_ends.result _ c.args.v (span_of c.args.self.now.lo c.args.self.now.hi s.0 s.1 s.2) t }
