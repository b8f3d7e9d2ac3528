-- Trying a cut out under a mark, on states.
use Rattle.std.specs.Prelude.{ℕ, List, ℤ, Ok, Err, Result}
use Rattle.plan.specs.States.{State}
use Rattle.plan.specs.Refusals.{Call, settle_call, cut_call, mark_call, back_call}
use Rattle.plan.specs.declared.answer.Verdict.{Verdict}
use Rattle.plan.specs.declared.answer.Closing.{Closing}
use Rattle.plan.specs.declared.plan.marks.Mark.{Mark}
use Rattle.plan.specs.declared.answer.PlanRefusal.{PlanRefusal}

-- settles after a cut that gave this answer
abbrev pub settle_after : {A : Type 0} → (List ℕ → ℕ) → ℕ → Result A PlanRefusal → State → Call Verdict
settle_after choice long (Ok x) s = settle_call choice long s
settle_after choice long (Err f) s = record { answer = Err f; after = s }

-- meets window j with g, and settles
abbrev pub cut_and_settle : (List ℕ → ℕ) → ℕ → List ℤ → ℕ → State → Call Verdict
cut_and_settle choice j g long s = settle_after choice long (cut_call j g long s).answer (cut_call j g long s).after

-- the answer so far, unless the mark could not be taken back
abbrev pub unless_ended : Result Closing PlanRefusal → Result Verdict PlanRefusal → Result Verdict PlanRefusal
unless_ended (Ok d) r = r
unless_ended (Err f) r = Err f

-- takes mark m back after a call
abbrev pub back_after : ℕ → ℕ → Call Verdict → Call Verdict
back_after m long c = record { answer = unless_ended (back_call m long c.after).answer c.answer; after = (back_call m long c.after).after }

-- cuts and settles under the mark that was handed out, and takes it back
abbrev pub try_marked : (List ℕ → ℕ) → ℕ → List ℤ → ℕ → Result Mark PlanRefusal → State → Call Verdict
try_marked choice j g long (Ok m) s = back_after m.number long (cut_and_settle choice j g long s)
try_marked choice j g long (Err f) s = record { answer = Err f; after = s }

-- what a settling answers after window j was met with g, under a mark that is taken back
abbrev pub try_call : (List ℕ → ℕ) → ℕ → List ℤ → ℕ → State → Call Verdict
try_call choice j g long s = try_marked choice j g long (mark_call long s).answer (mark_call long s).after
