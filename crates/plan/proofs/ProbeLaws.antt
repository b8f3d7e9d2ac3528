-- Trying a cut out: its equation, from those of the calls that it makes.
use Rattle.std.proofs.Common.{◌≡◌, ℕ, ◌*◌, ◌<◌, Bool, true, false, cond, ltb, List, map, length, ℤ, Some, None, Ok, Option, Result, sym, refl, ap, ◌∙◌}
use Rattle.std.proofs.lemmas.Bool.{ltb-true}
use Rattle.plan.specs.States.{State}
use Rattle.plan.specs.Calls.{marking}
use Rattle.plan.specs.Refusals.{refused, or_else, mark_refusal, Call, unless, mark_call, back_call}
use Rattle.plan.specs.Views.{stored}
use Rattle.plan.specs.Probe.{cut_and_settle, unless_ended, back_after, try_marked, try_call}
use Rattle.plan.specs.declared.answer.Verdict.{Verdict}
use Rattle.plan.specs.declared.answer.Closing.{Closing}
use Rattle.plan.specs.declared.answer.PlanRefusal.{PlanRefusal}
use Rattle.plan.specs.declared.answer.PlanRefusal.TheVariants.{Marks, Handed}
use Rattle.plan.specs.declared.plan.marks.Mark.{Mark}
use Rattle.plan.proofs.BoardLaws.{fine_rows}
use Rattle.plan.proofs.CallExits.{none_asked}
use Rattle.plan.proofs.MarkLaws.{room_at}
use Rattle.plan.proofs.StoreLaws.{stored_long}

-- a call that answers no refusal was not refused
accepted : {A : Type 0} (o : Option PlanRefusal) (s : State) (c : Call A) (x : A) (t : State) → unless o s c ≡ record { answer = Ok x; after = t } → o ≡ None
accepted {A} (Some f) s c x t e = let a = ap (λ (k : Call A). k.answer) e in cc
accepted None s c x t e = refl

few_marks : (s : State) → mark_refusal s ≡ None → length s.marks < 16
few_marks s = go (ltb (length s.marks) 16) refl
  where
    go : (b : Bool) → ltb (length s.marks) 16 ≡ b → cond b (cond (ltb s.handed 1000000000) None (Some Handed)) (Some Marks) ≡ None → length s.marks < 16
    go true e q = ltb-true (length s.marks) 16 e
    go false e q = cc

-- a marking keeps the store's length
pub mark_long : {Row : Type 0} (stands : Row → List ℤ) (rows store store' : List Row) (s t : State) (m : Mark) → s.table ≡ map stands rows → mark_call (length store) s ≡ record { answer = Ok m; after = t } → store' ≡ stored store (length s.marks * s.windows) rows → length store' ≡ length store
mark_long {Row} stands rows store store' s t m same e q =
    let o = accepted (or_else (refused (length store) s) (mark_refusal s)) s (record { answer = Ok (record { number = s.handed }); after = marking s }) m t e in
    let (board, marks) = none_asked (refused (length store) s) (mark_refusal s) o in
    let f = fine_rows stands rows (length store) s.windows (rw same at (sym board)) in
    ap length q ∙ stored_long store rows (length s.marks * s.windows) (room_at (length s.marks) s.windows (length store) (length rows) f.0 (few_marks s marks) f.2)

-- a mark that was handed out, what was done under it, and its taking back
pub tried : (choice : List ℕ → ℕ) (j : ℕ) (g : List ℤ) (long l₁ l₂ : ℕ) (s s₁ u t : State) (m : Mark) (r : Result Verdict PlanRefusal) (b : Result Closing PlanRefusal) → l₁ ≡ long → l₂ ≡ long → mark_call long s ≡ record { answer = Ok m; after = s₁ } → cut_and_settle choice j g l₁ s₁ ≡ record { answer = r; after = u } → back_call m.number l₂ u ≡ record { answer = b; after = t } → try_call choice j g long s ≡ record { answer = unless_ended b r; after = t }
tried choice j g long l₁ l₂ s s₁ u t m r b e₁ e₂ marks cuts backs =
    ap {B = Call Verdict} (λ (c : Call Mark). try_marked choice j g long c.answer c.after) marks
    ∙ ap {B = Call Verdict} (λ l. back_after m.number long (cut_and_settle choice j g l s₁)) (sym e₁)
    ∙ ap {B = Call Verdict} (back_after m.number long) cuts
    ∙ ap {B = Call Verdict} (λ l. back_after m.number l (record { answer = r; after = u })) (sym e₂)
    ∙ ap {B = Call Verdict} (λ (c : Call Closing). record { answer = unless_ended c.answer r; after = c.after }) backs
