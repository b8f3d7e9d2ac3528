use Rattle.std.proofs.Common.{◌≡◌, ℕ, length, Some, None, Ok, Result, sym, ap, ◌∙◌, arith, rules}
use Rattle.std.proofs.lemmas.Result.{err_from_is_err_and}
use Rattle.bounded.specs.Lists.{items}
use Rattle.plan.specs.States.{State}
use Rattle.plan.specs.Calls.{keeping, with_marks}
use Rattle.plan.specs.Asking.{ask_kept}
use Rattle.plan.specs.Refusals.{Call, refused, or_else, open_refusal, keep_call}
use Rattle.plan.specs.Theorem.{Carries, if_ok}
use Rattle.plan.specs.Plans.{state_of}
use Rattle.plan.specs.declared.answer.PlanRefusal.{PlanRefusal}
use Rattle.plan.specs.declared.answer.PlanRefusal.TheVariants.{Ended}
use Rattle.plan.specs.declared.answer.Closing.{Closing}
use Rattle.plan.specs.declared.answer.Closing.TheVariants.{Done}
use Rattle.plan.proofs.ProperSets.{proper_sets}
use Rattle.plan.proofs.MarkLaws.{placed, found_open, found_ended, keep_found, closed_copies, still_open, has_ended}
use Rattle.plan.proofs.CallExits.{none_or, asked_next, call_refused, call_done}
use Rattle.plan.proofs.Theorem.{keep_carries}
use Rattle.plan.proofs.plan.Plan.keep.Given as given
use Rattle.plan.proofs.plan.Plan.keep.Goals as goal

asked : (g : given.Over) (m long : ℕ) (s : State) (r : Result Closing PlanRefusal) (t : State) → keep_call m long s ≡ record { answer = r; after = t } → Carries g.B.RuleBook.sets g.P.Policy.choice (if_ok r (ask_kept m)) s t
asked g = keep_carries g.B.RuleBook.sets g.P.Policy.choice (proper_sets g.B.Kind.Window.kind g.met.B.Kind.Window.proper g.B.RuleBook.sets g.met.B.RuleBook.tied) g.met.P.Policy.chooses

pub returns-in_err-check-clause-asked : goal.returns-in_err-check-clause-asked
returns-in_err-check-clause-asked g c = asked g _ (length c.args.board.now.store.now) _ _ _ (search rules)

pub returns-in_err-place-clause-equation : goal.returns-in_err-place-clause-equation
returns-in_err-place-clause-equation g c =
    let s : State = state_of g.B.RuleBook g.P.Policy g.B.Kind.Window c.args.self.now c.args.board.now in
    let m = c.args.mark.number in
    let long = length c.args.board.now.store.now in
    let marks = items c.args.self.now.status.marks in
    let p = err_from_is_err_and c.from_residual-in_err-place.result c.from_residual-in_err-place.ensures.1 in
    let q = none_or c.find.result Ended c.in_err-place.field-0.0 c.in_err-place.ensures.value in
    let ended = has_ended m s (found_ended g.B.Kind.Window.stands marks s.windows c.args.board.now.store.now m (length marks) (sym c.find.ensures ∙ q.0)) in
    rw (p.1, p.2, q.1) (call_refused (or_else (refused long s) (open_refusal m s)) Ended s (record { answer = Ok Done; after = keeping m s }) (asked_next (refused long s) (open_refusal m s) (Some Ended) c.in_ok-check.ensures ended))

pub returns-in_err-place-clause-asked : goal.returns-in_err-place-clause-asked
returns-in_err-place-clause-asked g c = asked g _ (length c.args.board.now.store.now) _ c.from_residual-in_err-place.result _ (returns-in_err-place-clause-equation g c)

pub returns-clause-equation : goal.returns-clause-equation
returns-clause-equation g c =
    let stands = g.B.Kind.Window.stands in
    let s : State = state_of g.B.RuleBook g.P.Policy g.B.Kind.Window c.args.self.now c.args.board.now in
    let m = c.args.mark.number in
    let store = c.args.board.now.store.now in
    let long = length store in
    let marks = items c.args.self.now.status.marks in
    let k = c.in_ok-place.place in
    let (f, below, few) = placed c.args.self.now.status.marks m k c.find.result c.find.ensures c.in_ok-place.ensures.value in
    let there = still_open m s (found_open stands marks s.windows store m (length marks) k f) in
    let o = or_else (refused long s) (open_refusal m s) in
    let closed = closed_copies stands marks (items c.truncate.new.self) s.windows store k (omega (arith, below)) c.truncate.ensures in
    call_done o s (record { answer = Ok Done; after = keeping m s }) (record { answer = Ok Done; after = with_marks s _ }) (asked_next (refused long s) (open_refusal m s) None c.in_ok-check.ensures there) (ap {B = Call Closing} (λ (t : State). record { answer = Ok Done; after = t }) (keep_found stands marks s.windows store m s (length marks) k f ∙ ap (with_marks s) (sym closed)))

pub returns-clause-asked : goal.returns-clause-asked
returns-clause-asked g c = asked g _ (length c.args.board.now.store.now) _ (Ok Done) _ (returns-clause-equation g c)
