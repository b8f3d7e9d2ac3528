-- The listing, byte for byte.
use Rattle.std.specs.Prelude.{ℕ, zero, suc, ◌+◌, Bool, cond, ◌&&◌, List, [], ◌∷◌, ◌++◌, length, drop, ℤ, Some, None, codes, decimal, Option, nat_le}
use Rattle.std.specs.Fmt.{signed_decimal}
use Rattle.windows.specs.Sets.{eq_z}
use Rattle.windows.specs.declared.span.SpanRow.{SpanRow}
use Rattle.listing.specs.declared.shown.Fields.{Fields}
use Rattle.listing.specs.declared.shown.Fields.TheVariants.{Ends}
use Rattle.plan.specs.declared.answer.Verdict.{Verdict}
use Rattle.plan.specs.declared.answer.Verdict.TheVariants.{Settled, Impossible}

-- Each of the following says what stands written once a piece more is written behind w.

-- a number, and the byte that parts it from the next field (a space, 32) or ends the line (10)
abbrev pub counted : List ℕ → ℕ → ℕ → List ℕ
counted w n end = (w ++ decimal n) ++ (end ∷ [])

-- a signed number and a space
abbrev pub field : List ℕ → ℤ → List ℕ
field w z = (w ++ signed_decimal z) ++ (32 ∷ [])

-- the fields of a row: the two ends of a span
abbrev pub fielded : List ℕ → Fields → List ℕ
fielded w (Ends lo hi) = field (field w lo) hi

-- how a settling ended: its steps, or its steps with a rule and a window
abbrev pub head_line : List ℕ → Verdict → List ℕ
head_line w (Settled n) = counted (w ++ codes "settled ") n 10
head_line w (Impossible n i j) = counted (counted (counted (w ++ codes "impossible ") n 32) i 32) j 10

-- open if the window is as the sheet gave it, else fixed if one number is left, else cut
abbrev pub word : Bool → Bool → List ℕ
word same one = cond same (codes "open") (cond one (codes "fixed") (codes "cut"))

abbrev pub worded : List ℕ → Bool → Bool → List ℕ
worded w same one = (w ++ word same one) ++ (10 ∷ [])

-- how rows of a kind are shown: their fields, whether two are the same, and whether one number is left
pub record Look (R : Type 0) : Type 0 where
  pub fields : R → Fields
  pub same : R → R → Bool
  pub one : R → Bool

-- a span shows its ends
abbrev pub span_look : Look SpanRow
span_look = record { fields = λ p. Ends p.lo p.hi; same = λ p q. eq_z p.lo q.lo && eq_z p.hi q.hi; one = λ p. eq_z p.lo p.hi }

-- the line of window i: p as it is now, q as the sheet gave it
abbrev pub line : {R : Type 0} → Look R → List ℕ → ℕ → R → R → List ℕ
line k w i p q = worded (fielded (counted w i 32) (k.fields p)) (k.same p q) (k.one p)

-- the lines of at most n windows, from number i on
abbrev pub lines : {R : Type 0} → Look R → List ℕ → ℕ → ℕ → List R → List R → List ℕ
lines k w zero i ps qs = w
lines k w (suc n) i [] qs = w
lines k w (suc n) i (p ∷ ps) [] = w
lines k w (suc n) i (p ∷ ps) (q ∷ qs) = lines k (line k w i p q) n (i + 1) ps qs

-- the listing of a table beside what the sheet gave; no lines follow where the plan is impossible
abbrev pub listing : {R : Type 0} → Look R → Verdict → List R → List R → List ℕ
listing k (Settled n) ps qs = lines k (head_line [] (Settled n)) 64 0 ps qs
listing k (Impossible n i j) ps qs = head_line [] (Impossible n i j)

-- printing a text into a lent place: its length and the place after it, or none and nothing written where it does not fit
pub record Printed : Type 0 where
  pub answer : Option ℕ
  pub after : List ℕ

abbrev pub printed : List ℕ → List ℕ → Printed
printed text out = cond (nat_le (length text) (length out)) (record { answer = Some (length text); after = text ++ drop (length text) out }) (record { answer = None; after = out })
