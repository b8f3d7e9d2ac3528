use Rattle.std.proofs.Common.{◌≡◌, ℕ, ◌*◌, ◌≤◌, map, length, get_or, take, drop, Some, None, Ok, Result, sym, refl, ap, ◌∙◌, arith, rules}
use Rattle.std.proofs.lemmas.Result.{err_from_is_err_and}
use Rattle.bounded.specs.Lists.{items}
use Rattle.plan.specs.States.{State}
use Rattle.plan.specs.Calls.{all_waiting, taking_back}
use Rattle.plan.specs.Asking.{ask_back}
use Rattle.plan.specs.Refusals.{Call, refused, or_else, open_refusal, back_call}
use Rattle.plan.specs.Theorem.{Carries, if_ok}
use Rattle.plan.specs.Plans.{state_of}
use Rattle.plan.specs.Views.{no_slot, copies}
use Rattle.plan.specs.declared.answer.PlanRefusal.{PlanRefusal}
use Rattle.plan.specs.declared.answer.PlanRefusal.TheVariants.{Ended}
use Rattle.plan.specs.declared.answer.Closing.{Closing}
use Rattle.plan.specs.declared.answer.Closing.TheVariants.{Done}
use Rattle.plan.proofs.ProperSets.{proper_sets}
use Rattle.plan.proofs.BoardLaws.{fine_rows}
use Rattle.plan.proofs.MarkLaws.{placed, found_open, found_ended, back_found, closed_copies, same_state, still_open, has_ended, room_at, small_place}
use Rattle.plan.proofs.CallExits.{none_or, asked_next, call_refused, call_done}
use Rattle.plan.proofs.Theorem.{back_carries}
use Rattle.plan.proofs.plan.Plan.take_back.Given as given
use Rattle.plan.proofs.plan.Plan.take_back.Goals as goal

asked : (g : given.Over) (m long : ℕ) (s : State) (r : Result Closing PlanRefusal) (t : State) → back_call m long s ≡ record { answer = r; after = t } → Carries g.B.RuleBook.sets g.P.Policy.choice (if_ok r (ask_back m)) s t
asked g = back_carries g.B.RuleBook.sets g.P.Policy.choice (proper_sets g.B.Kind.Window.kind g.met.B.Kind.Window.proper g.B.RuleBook.sets g.met.B.RuleBook.tied) g.met.P.Policy.chooses

pub returns-in_err-check-clause-asked : goal.returns-in_err-check-clause-asked
returns-in_err-check-clause-asked g c = asked g _ (length c.args.board.now.store.now) _ _ _ (search rules)

pub returns-in_err-k-clause-equation : goal.returns-in_err-k-clause-equation
returns-in_err-k-clause-equation g c =
    let s : State = state_of g.B.RuleBook g.P.Policy g.B.Kind.Window c.args.self.now c.args.board.now in
    let m = c.args.mark.number in
    let long = length c.args.board.now.store.now in
    let marks = items c.args.self.now.status.marks in
    let p = err_from_is_err_and c.from_residual-in_err-k.result c.from_residual-in_err-k.ensures.1 in
    let q = none_or c.find.result Ended c.in_err-k.field-0.0 c.in_err-k.ensures.value in
    let ended = has_ended m s (found_ended g.B.Kind.Window.stands marks s.windows c.args.board.now.store.now m (length marks) (sym c.find.ensures ∙ q.0)) in
    rw (p.1, p.2, q.1) (call_refused (or_else (refused long s) (open_refusal m s)) Ended s (record { answer = Ok Done; after = taking_back m s }) (asked_next (refused long s) (open_refusal m s) (Some Ended) c.in_ok-check.ensures ended))

pub returns-in_err-k-clause-asked : goal.returns-in_err-k-clause-asked
returns-in_err-k-clause-asked g c = asked g _ (length c.args.board.now.store.now) _ _ _ (returns-in_err-k-clause-equation g c)

pub offset_bounds-as_slice-k : goal.offset_bounds-as_slice-k
offset_bounds-as_slice-k g c = let p = placed c.args.self.now.status.marks c.args.mark.number c.in_ok-k.k c.find.result c.find.ensures c.in_ok-k.ensures.value in omega arith

pub bounds-as_slice-k : goal.bounds-as_slice-k
bounds-as_slice-k g c = let p = placed c.args.self.now.status.marks c.args.mark.number c.in_ok-k.k c.find.result c.find.ensures c.in_ok-k.ensures.value in omega (arith, p.1, ap length c.as_slice.ensures)

pub overflow_mul-k : goal.overflow_mul-k
overflow_mul-k g c =
    let status = c.args.self.now.status in
    let p = placed status.marks c.args.mark.number c.in_ok-k.k c.find.result c.find.ensures c.in_ok-k.ensures.value in
    let f = fine_rows g.B.Kind.Window.stands c.args.board.now.rows.now (length c.args.board.now.store.now) status.windows c.in_ok-check.ensures in
    let few : status.windows ≤ 64 = omega (arith, f.0, f.1) in
    omega (arith, small_place c.in_ok-k.k status.windows p.2 few)

pub load-requires : goal.load-requires
load-requires g c =
    let status = c.args.self.now.status in
    let rows = c.args.board.now.rows.now in
    let p = placed status.marks c.args.mark.number c.in_ok-k.k c.find.result c.find.ensures c.in_ok-k.ensures.value in
    let f = fine_rows g.B.Kind.Window.stands rows (length c.args.board.now.store.now) status.windows c.in_ok-check.ensures in
    room_at c.in_ok-k.k status.windows (length c.args.board.now.store.now) (length rows) f.0 p.2 f.2

pub returns-clause-equation : goal.returns-clause-equation
returns-clause-equation g c =
    let stands = g.B.Kind.Window.stands in
    let s : State = state_of g.B.RuleBook g.P.Policy g.B.Kind.Window c.args.self.now c.args.board.now in
    let m = c.args.mark.number in
    let store = c.args.board.now.store.now in
    let long = length store in
    let marks = items c.args.self.now.status.marks in
    let k = c.in_ok-k.k in
    let (f, below, few) = placed c.args.self.now.status.marks m k c.find.result c.find.ensures c.in_ok-k.ensures.value in
    let there = still_open m s (found_open stands marks s.windows store m (length marks) k f) in
    let o = or_else (refused long s) (open_refusal m s) in
    let fine = fine_rows stands c.args.board.now.rows.now long s.windows c.in_ok-check.ensures in
    let rules : g.B.RuleBook.rules c.shorten.new.self ≡ take (get_or marks k no_slot).count s.rules = c.shorten.ensures ∙ ap (λ ms. take (get_or ms k no_slot).count s.rules) c.as_slice.ensures in
    let waits = c.put_all.ensures ∙ ap all_waiting rules in
    let table = ap (map stands) (c.load.ensures.rows ∙ ap (λ (n : ℕ). take n (drop (k * s.windows) store)) fine.0) in
    let closed = closed_copies stands marks (items c.truncate.new.self) s.windows c.load.new.self.store.now k (omega (arith, below)) c.truncate.ensures ∙ ap (λ t. copies stands marks s.windows t k) c.load.ensures.store in
    let same = same_state rules waits (ap (λ ms. (get_or ms k no_slot).impossible) c.as_slice.ensures) table refl closed refl in
    call_done o s (record { answer = Ok Done; after = taking_back m s }) (record { answer = Ok Done; after = _ }) (asked_next (refused long s) (open_refusal m s) None c.in_ok-check.ensures there) (ap {B = Call Closing} (λ (t : State). record { answer = Ok Done; after = t }) (back_found stands marks s.windows store m s (length marks) k f ∙ sym same))

pub returns-clause-asked : goal.returns-clause-asked
returns-clause-asked g c = asked g _ (length c.args.board.now.store.now) _ (Ok Done) _ (returns-clause-equation g c)
