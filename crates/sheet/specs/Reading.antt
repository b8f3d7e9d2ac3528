-- What opening, reading and finishing a sheet do.
use Rattle.std.specs.Prelude.{◌≡◌, ℕ, zero, suc, ◌+◌, Bool, false, cond, ◌&&◌, List, [], length, Some, None, Ok, Err, Option, Result, ◌==◌, nat_le, nat_lt, slice_set}
use Rattle.windows.specs.Rows.{span_stands}
use Rattle.windows.specs.declared.span.SpanRow.{SpanRow}
use Rattle.rulebook.specs.Rules.{Rule}
use Rattle.rulebook.specs.Answers.{Posted, posted}
use Rattle.rulebook.specs.declared.answer.BookRefusal.{BookRefusal}
use Rattle.rulebook.specs.declared.answer.BookRefusal.TheVariants as book
use Rattle.rules.specs.Books.{book_refuses}
use Rattle.books.specs.Day.{day_meaning, day_asks}
use Rattle.books.specs.DayBooks.{day_rules}
use Rattle.plan.specs.declared.answer.PlanRefusal.{PlanRefusal}
use Rattle.plan.specs.declared.answer.PlanRefusal.TheVariants as plan
use Rattle.records.specs.declared.refusal.SheetRefusal.{SheetRefusal}
use Rattle.records.specs.declared.refusal.SheetRefusal.TheVariants as sheet
use Rattle.records.specs.declared.record.Stage.{Stage}
use Rattle.records.specs.declared.record.Stage.TheVariants as stage
use Rattle.records.specs.Records.{Found, record_at}
use Rattle.sheet.specs.Items.{item_of}
use Rattle.sheet.specs.declared.fault.Cause.{Cause}
use Rattle.sheet.specs.declared.fault.Cause.TheVariants as cause
use Rattle.sheet.specs.declared.fault.Fault.{Fault}
use Rattle.sheet.specs.declared.item.Item.{Item}
use Rattle.sheet.specs.declared.item.Item.TheVariants as item
use Rattle.sheet.specs.declared.lent.Lent.{Lent}
use Rattle.sheet.specs.declared.states.Open.{Open}
use Rattle.sheet.specs.declared.states.Read.{Read}

-- what is lent to a sheet: the rules of its book, its rows and its store
pub record Held : Type 0 where
  pub rules : List Rule
  pub rows : List SpanRow
  pub store : List SpanRow

abbrev pub held : Lent → Held
held l = record { rules = day_rules l.book.now; rows = l.rows.now; store = l.store.now }

-- the same book, rows and store are lent as before
abbrev pub LendsOn : Lent → Lent → Type 0
LendsOn old new = (new.book.ghost_name ≡ old.book.ghost_name) × (new.rows.ghost_name ≡ old.rows.ghost_name) × (new.store.ghost_name ≡ old.store.ghost_name)

-- are there places for 64 windows, and 16 times as many in the store
abbrev pub roomy : Held → Bool
roomy l = nat_le 64 (length l.rows) && nat_le 1024 (length l.store)

-- what the question about room answers
abbrev pub room : Held → Result (Unit {0}) PlanRefusal
room l = cond (roomy l) (Ok tt) (Err plan.Store)

-- ---- opening
-- what an opening answers, and what is lent after it
pub record Opening : Type 0 where
  pub answer : Result Open Fault
  pub after : Held

-- at most 61,440 bytes, and room enough; the book is emptied
abbrev pub opened : List ℕ → Held → Opening
opened bs l =
    cond (nat_le (length bs) 61440)
    (cond (roomy l) (record { answer = Ok (record { at = 0; stage = stage.Blank; windows = 0 }); after = record { rules = []; rows = l.rows; store = l.store } }) (record { answer = Err (record { cause = cause.Plan plan.Store; at = 0 }); after = l }))
    (record { answer = Err (record { cause = cause.Sheet sheet.Long; at = 0 }); after = l })

-- ---- reading
-- a sheet that is being read, with all that is lent to it
pub record Sheet : Type 0 where
  pub at : ℕ
  pub stage : Stage
  pub windows : ℕ
  pub lent : Held

abbrev pub view : Open → Lent → Sheet
view o l = record { at = o.at; stage = o.stage; windows = o.windows; lent = held l }

-- the kind is known: windows may come
abbrev pub kinded : Sheet → Sheet
kinded s = record { at = s.at; stage = stage.Windows; windows = s.windows; lent = s.lent }

-- one window more
abbrev pub windowed : Sheet → SpanRow → Sheet
windowed s row = record { at = s.at; stage = s.stage; windows = s.windows + 1; lent = record { rules = s.lent.rules; rows = slice_set s.lent.rows s.windows row; store = s.lent.store } }

-- a posting to the book: no window may come any more
abbrev pub ruled : Sheet → Result ℕ BookRefusal → List Rule → Result Sheet Cause
ruled s (Ok n) rules = Ok (record { at = s.at; stage = stage.Rules; windows = s.windows; lent = record { rules = rules; rows = s.lent.rows; store = s.lent.store } })
ruled s (Err f) rules = Err (cause.Book f)

-- a rule is posted for the windows so far
abbrev pub posting : Sheet → Posted → Result Sheet Cause
posting s p = ruled s p.answer p.after

-- is it a 65th window
abbrev pub crowded : Sheet → Item → Bool
crowded s (item.Kind k) = false
crowded s (item.Window row) = nat_le 64 s.windows
crowded s (item.Rule p) = false
crowded s item.Note = false

-- what an item adds to a sheet that has room for it
abbrev pub added : Sheet → Item → Result Sheet Cause
added s (item.Kind k) = cond (k == 1) (Ok (kinded s)) (Err (cause.Sheet sheet.Place))
added s (item.Window row) = cond (span_stands row) (Ok (windowed s row)) (Err (cause.Book book.Row))
added s (item.Rule p) = posting s (posted s.lent.rules (day_meaning p) (book_refuses (length s.lent.rules) (day_asks p s.windows)))
added s item.Note = Ok s

-- fewer than 65 windows? enough lent? then what the item adds
abbrev pub took : Sheet → Item → Result Sheet Cause
took s i = cond (crowded s i) (Err (cause.Plan plan.Windows)) (cond (roomy s.lent) (added s i) (Err (cause.Plan plan.Store)))

-- what a call that answers yes or a cause, and leaves sheet s, comes to
abbrev pub outcome : Result (Unit {0}) Cause → Sheet → Result Sheet Cause
outcome (Ok t) s = Ok s
outcome (Err c) s = Err c

-- what a reading answers, the kind of the record that it took or none where no byte is left, and the sheet after it
pub record Reading : Type 0 where
  pub answer : Result (Option ℕ) Fault
  pub after : Sheet

-- a refused reading takes nothing
abbrev pub read_refused : Sheet → Cause → Reading
read_refused s c = record { answer = Err (record { cause = c; at = s.at }); after = s }

abbrev pub read_took : Sheet → Found → Result Sheet Cause → Reading
read_took s f (Ok t) = record { answer = Ok (Some f.number); after = record { at = f.next; stage = t.stage; windows = t.windows; lent = t.lent } }
read_took s f (Err c) = read_refused s c

abbrev pub read_item : Sheet → Found → Option Item → Reading
read_item s f (Some i) = read_took s f (took s i)
read_item s f None = read_refused s (cause.Sheet sheet.Length)

abbrev pub read_found : Sheet → Result (Option Found) SheetRefusal → Reading
read_found s (Err f) = read_refused s (cause.Sheet f)
read_found s (Ok None) = record { answer = Ok None; after = s }
read_found s (Ok (Some f)) = read_item s f (item_of f.rec)

-- one record is taken, or the end is told
abbrev pub reading : List ℕ → Sheet → Reading
reading bs s = read_found s (record_at bs s.at s.stage)

-- reading goes on after a record, and not after the end or a refusal
abbrev pub next : Reading → Result (Option ℕ) Fault → Reading → Reading
next r (Ok (Some k)) rest = rest
next r (Ok None) rest = r
next r (Err f) rest = r

-- at most n readings, one after the other
unfoldable pub readings : ℕ → List ℕ → Sheet → Reading
readings zero bs s = record { answer = Ok None; after = s }
readings (suc n) bs s = let r = reading bs s in next r r.answer (readings n bs r.after)

-- what reading to the end answers: nothing, or the fault
abbrev pub quiet : Result (Option ℕ) Fault → Result (Unit {0}) Fault
quiet (Ok t) = Ok tt
quiet (Err f) = Err f

-- ---- finishing
-- all bytes taken, and at least one window; else the open sheet comes back
abbrev pub finished : ℕ → Open → Result Read (Open × Fault)
finished n o =
    cond (nat_lt o.at n) (Err (o, record { cause = cause.Sheet sheet.Left; at = o.at }))
    (cond (o.windows == 0) (Err (o, record { cause = cause.Plan plan.Windows; at = o.at })) (Ok (record { at = o.at; windows = o.windows })))

-- ---- a whole sheet
-- what opening, reading and finishing a sheet answer together, and what is lent after them
pub record Whole : Type 0 where
  pub answer : Result Read Fault
  pub after : Held

-- an open sheet that does not finish is given up
abbrev pub or_fault : Result Read (Open × Fault) → Result Read Fault
or_fault (Ok r) = Ok r
or_fault (Err e) = Err e.1

-- finished, unless its reading was refused
abbrev pub read_through : List ℕ → Result (Unit {0}) Fault → Sheet → Whole
read_through bs (Ok t) s = record { answer = or_fault (finished (length bs) (record { at = s.at; stage = s.stage; windows = s.windows })); after = s.lent }
read_through bs (Err f) s = record { answer = Err f; after = s.lent }

-- read to its end, unless its opening was refused
abbrev pub opened_through : List ℕ → Result Open Fault → Held → Whole
opened_through bs (Ok o) l = let r = readings 15361 bs (record { at = o.at; stage = o.stage; windows = o.windows; lent = l }) in read_through bs (quiet r.answer) r.after
opened_through bs (Err f) l = record { answer = Err f; after = l }

-- opened, read and finished
abbrev pub whole : List ℕ → Held → Whole
whole bs l = let o = opened bs l in opened_through bs o.answer o.after
