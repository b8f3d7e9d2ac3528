-- The numbers of a plain row of the span kind.
use Rattle.std.specs.Prelude.{◌≡◌, Bool, true, false, cond, ◌&&◌, List, [], ℤ, pos, negsuc, ◌≤ℤ◌, int_le}
use Rattle.windows.specs.Sets.{range}
use Rattle.windows.specs.declared.span.SpanRow.{SpanRow}

-- the ends of a span, in order and in range
abbrev pub Stands : ℤ → ℤ → Type 0
Stands lo hi = (lo ≤ℤ hi) × (negsuc 999999 ≤ℤ lo) × (hi ≤ℤ pos 1000000)

-- the check of a row: are its ends in order, and in range
abbrev pub span_stands : SpanRow → Bool
span_stands r = int_le r.lo r.hi && (int_le (negsuc 999999) r.lo && int_le r.hi (pos 1000000))

-- what a row stands for: all numbers between its ends, none where it fails its check
unfoldable pub span_numbers : SpanRow → List ℤ
span_numbers r = cond (span_stands r) (range r.lo r.hi) []

-- what the check of a row tells
abbrev pub Checked : SpanRow → Bool → Type 0
Checked r true = Stands r.lo r.hi × (span_numbers r ≡ range r.lo r.hi)
Checked r false = span_numbers r ≡ []
