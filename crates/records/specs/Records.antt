-- How a sheet is cut into records, and which record may stand where.
use Rattle.std.specs.Prelude.{ℕ, ◌+◌, ◌-◌, ◌%◌, Bool, true, false, cond, not, ◌&&◌, List, [], ◌∷◌, length, take, drop, Some, None, Ok, Err, Option, Result, ◌==◌, nat_le, nat_lt}
use Rattle.std.specs.Borrow.{Bor}
use Rattle.records.specs.declared.refusal.SheetRefusal.{SheetRefusal}
use Rattle.records.specs.declared.refusal.SheetRefusal.TheVariants as refusal
use Rattle.records.specs.declared.record.Stage.{Stage}
use Rattle.records.specs.declared.record.Stage.TheVariants as stage
use Rattle.records.specs.declared.record.Record.{Record}
use Rattle.records.specs.declared.record.Record.TheVariants as record'
use Rattle.records.specs.declared.record.Placed.{Placed}
use Rattle.records.specs.Bytes.{little}

-- the number that each refusal of a sheet is told by
abbrev pub sheet_number : SheetRefusal → ℕ
sheet_number refusal.Long = 20
sheet_number refusal.Head = 21
sheet_number refusal.Payload = 22
sheet_number refusal.Unknown = 23
sheet_number refusal.Place = 24
sheet_number refusal.Length = 25
sheet_number refusal.Left = 26
sheet_number refusal.Room = 27

-- A record is a payload length and a kind, two bytes each, and the payload. The kind and the payload at the front of a sheet;
-- none where no byte is left.
abbrev pub front : List ℕ → Result (Option (ℕ × List ℕ)) SheetRefusal
front [] = Ok None
front (a ∷ []) = Err refusal.Head
front (a ∷ b ∷ []) = Err refusal.Head
front (a ∷ b ∷ c ∷ []) = Err refusal.Head
front (a ∷ b ∷ c ∷ d ∷ rest) =
    cond (nat_lt (length rest) (little (a ∷ b ∷ []))) (Err refusal.Payload) (Ok (Some (little (c ∷ d ∷ []), take (little (a ∷ b ∷ [])) rest)))

-- a record, by its kind, with its payload
pub data Rec : Type 0 where
  kind : List ℕ → Rec
  span : List ℕ → Rec
  sum_equals : List ℕ → Rec
  sum_at_most : List ℕ → Rec
  differ : List ℕ → Rec
  same : List ℕ → Rec
  note : List ℕ → Rec

-- is nothing read but notes, and may a window come
abbrev pub blank : Stage → Bool
blank stage.Blank = true
blank stage.Windows = false
blank stage.Rules = false

abbrev pub takes_windows : Stage → Bool
takes_windows stage.Blank = false
takes_windows stage.Windows = true
takes_windows stage.Rules = false

-- its length right? in its place?
abbrev pub asked : Bool → Bool → Rec → Result Rec SheetRefusal
asked long there r = cond long (cond there (Ok r) (Err refusal.Place)) (Err refusal.Length)

-- the length of a sum: a bound of four bytes, and any count of terms of five bytes
abbrev pub sums : ℕ → Bool
sums n = nat_le 4 n && (n - 4) % 5 == 0

-- the record of kind k with payload p: 1 the sheet's kind, 2 a span, 4 and 5 sums, 7 differ, 8 same, from 32768 up notes
abbrev pub sorted : Stage → ℕ → List ℕ → Result Rec SheetRefusal
sorted s k p =
    cond (k == 1) (asked (length p == 1) (blank s) (kind p))
    (cond (k == 2) (asked (length p == 8) (takes_windows s) (span p))
    (cond (k == 4) (asked (sums (length p)) (not (blank s)) (sum_equals p))
    (cond (k == 5) (asked (sums (length p)) (not (blank s)) (sum_at_most p))
    (cond (k == 7) (asked (length p == 2) (not (blank s)) (differ p))
    (cond (k == 8) (asked (length p == 2) (not (blank s)) (same p))
    (cond (nat_le 32768 k) (Ok (note p)) (Err refusal.Unknown)))))))

-- a record, handed out with its place: its kind, its first byte, and the first byte behind it
pub record Found : Type 0 where
  pub rec : Rec
  pub number : ℕ
  pub at : ℕ
  pub next : ℕ

abbrev pub found_as : ℕ → ℕ → ℕ → Result Rec SheetRefusal → Result (Option Found) SheetRefusal
found_as k at n (Ok r) = Ok (Some (record { rec = r; number = k; at = at; next = at + 4 + n }))
found_as k at n (Err f) = Err f

abbrev pub found_in : ℕ → Stage → Result (Option (ℕ × List ℕ)) SheetRefusal → Result (Option Found) SheetRefusal
found_in at s (Ok None) = Ok None
found_in at s (Ok (Some h)) = found_as h.0 at (length h.1) (sorted s h.0 h.1)
found_in at s (Err f) = Err f

-- the record that stands at a place of a sheet
abbrev pub record_at : List ℕ → ℕ → Stage → Result (Option Found) SheetRefusal
record_at bs at s = found_in at s (front (drop at bs))

-- The same with the parts of the input that the code hands out.
abbrev pub seen : Result (Option (ℕ × Bor (List ℕ))) SheetRefusal → Result (Option (ℕ × List ℕ)) SheetRefusal
seen (Ok None) = Ok None
seen (Ok (Some p)) = Ok (Some (p.0, p.1.now))
seen (Err f) = Err f

abbrev pub plain : Record → Rec
plain (record'.Kind p) = kind p.now
plain (record'.Span p) = span p.now
plain (record'.SumEquals p) = sum_equals p.now
plain (record'.SumAtMost p) = sum_at_most p.now
plain (record'.Differ p) = differ p.now
plain (record'.Same p) = same p.now
plain (record'.Note p) = note p.now

abbrev pub plainly : Result Record SheetRefusal → Result Rec SheetRefusal
plainly (Ok r) = Ok (plain r)
plainly (Err f) = Err f

abbrev pub handed : Result (Option Placed) SheetRefusal → Result (Option Found) SheetRefusal
handed (Ok None) = Ok None
handed (Ok (Some p)) = Ok (Some (record { rec = plain p.«record»; number = p.kind; at = p.at; next = p.next }))
handed (Err f) = Err f
