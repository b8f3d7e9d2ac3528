-- What settling and printing a sheet that was read do.
use Rattle.std.specs.Prelude.{ℕ, cond, List, map, length, take, drop, Some, None, Ok, Err, Option, Result}
use Rattle.windows.specs.Rows.{span_numbers}
use Rattle.windows.specs.declared.span.SpanRow.{SpanRow}
use Rattle.rulebook.specs.Tables.{Table}
use Rattle.rulebook.specs.Rules.{Rule}
use Rattle.plan.specs.declared.answer.PlanRefusal.{PlanRefusal}
use Rattle.plan.specs.declared.answer.PlanRefusal.TheVariants as plan
use Rattle.plan.specs.declared.answer.Verdict.{Verdict}
use Rattle.records.specs.declared.refusal.SheetRefusal.TheVariants as sheet
use Rattle.listing.specs.Lines.{span_look, listing, Printed, printed}
use Rattle.settle.specs.Settled.{Ran, ran, given_to}
use Rattle.sheet.specs.Reading.{Held, roomy}
use Rattle.sheet.specs.declared.fault.Cause.TheVariants as cause
use Rattle.sheet.specs.declared.fault.Fault.{Fault}
use Rattle.sheet.specs.declared.states.Read.{Read}

-- ---- settling a sheet
-- the windows of a sheet as they stand in its rows
abbrev pub windows_of : Read → Held → Table
windows_of s l = map span_numbers (take s.windows l.rows)

-- what a settling answers, and what is lent after it: the rules, the sheet's windows, the other rows, and the store
pub record Settling : Type 0 where
  pub answer : Result Verdict Fault
  pub rules : List Rule
  pub table : Table
  pub others : List SpanRow
  pub store : List SpanRow

-- a plan's refusal, as the sheet carries it
abbrev pub by_plan : ℕ → Result Verdict PlanRefusal → Result Verdict Fault
by_plan at (Ok v) = Ok v
by_plan at (Err f) = Err (record { cause = cause.Plan f; at = at })

-- the sheet after its windows were settled so
abbrev pub settled_to : Read → Held → Ran → Settling
settled_to s l r = record { answer = by_plan s.at r.answer; rules = l.rules; table = r.after; others = drop s.windows l.rows; store = given_to r.answer l.store (take s.windows l.rows) }

-- enough lent? then a plan of the sheet's windows and rules is settled
abbrev pub settled : Read → Held → Settling
settled s l = settled_to s l (cond (roomy l) (ran l.rules (windows_of s l) (length l.store)) (record { answer = Err plan.Store; after = windows_of s l }))

-- a settling with this answer that left these rules, rows and store
abbrev pub left : Read → Result Verdict Fault → List Rule → List SpanRow → List SpanRow → Settling
left s r rules rows store = record { answer = r; rules = rules; table = map span_numbers (take s.windows rows); others = drop s.windows rows; store = store }

-- ---- printing
-- what a printing answers, and the buffer after it
pub record Printing : Type 0 where
  pub answer : Result ℕ Fault
  pub after : List ℕ

abbrev pub printing : Read → Printed → Option ℕ → Printing
printing s p (Some n) = record { answer = Ok n; after = p.after }
printing s p None = record { answer = Err (record { cause = cause.Sheet sheet.Room; at = s.at }); after = p.after }

-- the listing of a settled sheet: its windows beside those at the store's front
abbrev pub listing_of : Read → Held → Verdict → List ℕ
listing_of s l v = listing span_look v (take s.windows l.rows) l.store

-- enough lent? does it fit? nothing is written where it does not
abbrev pub printed_sheet : Read → Held → Verdict → List ℕ → Printing
printed_sheet s l v out = cond (roomy l) (let p = printed (listing_of s l v) out in printing s p p.answer) (record { answer = Err (record { cause = cause.Plan plan.Store; at = s.at }); after = out })
