-- The smallest span without a number, as the call gives it.
use Rattle.std.proofs.Common.{◌≡◌, List, [], ℤ, Some, None, Option, MatchOption}
use Rattle.windows.specs.Sets.{range, remove}
use Rattle.windows.specs.Kinds.{Of, Smallest, all_but, spans}
use Rattle.windows.specs.declared.span.Span.{Span}
use Rattle.windows.proofs.KindLaws.{smallest_from, but_none}
use Rattle.windows.specs.SetLaws.{range_some}
use Rattle.windows.specs.SpanLaws.{spans_proper}

-- the span of a set that is all numbers but v is the smallest that holds them
pub span_smallest : (o : Option Span) (s : List ℤ) (v : ℤ) → Of spans s → MatchOption o (all_but spans s v ≡ []) (λ w. range w.lo w.hi ≡ all_but spans s v) → MatchOption o (remove v s ≡ []) (λ w. Smallest spans (remove v s) (range w.lo w.hi))
span_smallest None s v o e = but_none spans spans_proper s v e
span_smallest (Some w) s v o e = smallest_from spans spans_proper s _ v o (range_some w.lo w.hi w.stands.0) e
