use Rattle.std.proofs.Common.{◌≡◌, ℕ, ◌*◌, ◌<◌, ◌≤◌, List, ◌∷◌, map, length, Some, None, Ok, Result, sym, refl, ap, ◌∙◌, add-one, arith, rules}
use Rattle.bounded.specs.Lists.{items}
use Rattle.plan.specs.States.{State, Copy}
use Rattle.plan.specs.Calls.{marking}
use Rattle.plan.specs.Asking.{ask_marked}
use Rattle.plan.specs.Refusals.{Call, refused, or_else, mark_refusal, mark_call}
use Rattle.plan.specs.Theorem.{Carries, if_ok}
use Rattle.plan.specs.Views.{copies, stored}
use Rattle.plan.specs.Plans.{state_of}
use Rattle.plan.specs.declared.answer.PlanRefusal.{PlanRefusal}
use Rattle.plan.specs.declared.answer.PlanRefusal.TheVariants.{Marks, Handed}
use Rattle.plan.specs.declared.plan.marks.Mark.{Mark}
use Rattle.plan.proofs.ProperSets.{proper_sets}
use Rattle.plan.proofs.BoardLaws.{fine_rows}
use Rattle.plan.proofs.MarkLaws.{copies_long, pushed_mark, marked_copies, same_state, may_mark, too_many, all_handed, room_at}
use Rattle.plan.proofs.CallExits.{asked_next, call_refused, call_done}
use Rattle.plan.proofs.Theorem.{mark_carries}
use Rattle.plan.proofs.plan.Plan.mark.Given as given
use Rattle.plan.proofs.plan.Plan.mark.Goals as goal

asked : (g : given.Over) (long : ℕ) (s : State) (r : Result Mark PlanRefusal) (t : State) → mark_call long s ≡ record { answer = r; after = t } → Carries g.B.RuleBook.sets g.P.Policy.choice (if_ok r (ask_marked s.handed)) s t
asked g = mark_carries g.B.RuleBook.sets g.P.Policy.choice (proper_sets g.B.Kind.Window.kind g.met.B.Kind.Window.proper g.B.RuleBook.sets g.met.B.RuleBook.tied) g.met.P.Policy.chooses

pub returns-in_err-check-clause-asked : goal.returns-in_err-check-clause-asked
returns-in_err-check-clause-asked g c = asked g (length c.args.board.now.store.now) _ _ _ (search rules)

pub returns-then-place-ge16-clause-equation : goal.returns-then-place-ge16-clause-equation
returns-then-place-ge16-clause-equation g c =
    let s : State = state_of g.B.RuleBook g.P.Policy g.B.Kind.Window c.args.self.now c.args.board.now in
    let long = length c.args.board.now.store.now in
    let marks = items c.args.self.now.status.marks in
    let many : 16 ≤ length s.marks = omega (arith, copies_long g.B.Kind.Window.stands marks s.windows c.args.board.now.store.now 0 (length marks), c.len-place.ensures, c.if-place-ge16.true) in
    call_refused (or_else (refused long s) (mark_refusal s)) Marks s (record { answer = Ok (record { number = s.handed }); after = marking s }) (asked_next (refused long s) (mark_refusal s) (Some Marks) c.in_ok-check.ensures (too_many s many))

pub returns-then-place-ge16-clause-asked : goal.returns-then-place-ge16-clause-asked
returns-then-place-ge16-clause-asked g c = asked g (length c.args.board.now.store.now) _ _ _ (returns-then-place-ge16-clause-equation g c)

pub returns-then-number-ge1000000000-clause-equation : goal.returns-then-number-ge1000000000-clause-equation
returns-then-number-ge1000000000-clause-equation g c =
    let s : State = state_of g.B.RuleBook g.P.Policy g.B.Kind.Window c.args.self.now c.args.board.now in
    let long = length c.args.board.now.store.now in
    let marks = items c.args.self.now.status.marks in
    let few : length s.marks < 16 = omega (arith, copies_long g.B.Kind.Window.stands marks s.windows c.args.board.now.store.now 0 (length marks), c.len-place.ensures, c.if-place-ge16.false) in
    call_refused (or_else (refused long s) (mark_refusal s)) Handed s (record { answer = Ok (record { number = s.handed }); after = marking s }) (asked_next (refused long s) (mark_refusal s) (Some Handed) c.in_ok-check.ensures (all_handed s few c.if-number-ge1000000000.true))

pub returns-then-number-ge1000000000-clause-asked : goal.returns-then-number-ge1000000000-clause-asked
returns-then-number-ge1000000000-clause-asked g c = asked g (length c.args.board.now.store.now) _ _ _ (returns-then-number-ge1000000000-clause-equation g c)

pub save-requires : goal.save-requires
save-requires g c =
    let status = c.args.self.now.status in
    let rows = c.args.board.now.rows.now in
    let f = fine_rows g.B.Kind.Window.stands rows (length c.args.board.now.store.now) status.windows c.in_ok-check.ensures in
    room_at c.len-place.result status.windows (length c.args.board.now.store.now) (length rows) f.0 c.if-place-ge16.false f.2

pub returns : goal.returns
returns g c =
    let stands = g.B.Kind.Window.stands in
    let s : State = state_of g.B.RuleBook g.P.Policy g.B.Kind.Window c.args.self.now c.args.board.now in
    let status = c.args.self.now.status in
    let rows = c.args.board.now.rows.now in
    let store = c.args.board.now.store.now in
    let long = length store in
    let marks = items status.marks in
    let place : c.len-place.result ≡ length marks = c.len-place.ensures in
    let few : length marks < 16 = omega (arith, c.if-place-ge16.false) in
    let count : length s.marks ≡ length marks = copies_long stands marks s.windows store 0 (length marks) in
    let o = or_else (refused long s) (mark_refusal s) in
    let f = fine_rows stands rows long status.windows c.in_ok-check.ensures in
    let room : length marks * status.windows ≤ length store = omega (arith, room_at (length marks) status.windows long (length rows) f.0 few f.2) in
    let saved = c.save.ensures.store ∙ ap (λ (d : ℕ). stored store (d * status.windows) rows) place in
    let pushed = pushed_mark marks (items c.push.new.self) (record { number = status.handed; count = c.count.result; impossible = status.impossible }) c.push.result few c.push.ensures in
    let copied = marked_copies stands marks (items c.push.new.self) store c.save.new.self.store.now rows status.windows (record { number = status.handed; count = c.count.result; impossible = status.impossible }) pushed f.0 saved room in
    let named = ap {B = List Copy} (λ (n : ℕ). record { number = status.handed; count = n; impossible = status.impossible; table = map stands rows } ∷ copies stands marks status.windows store (length marks)) c.count.ensures in
    let same = same_state {q = s.rules} {v = s.waiting} {b = s.impossible} refl refl refl (ap (map stands) c.save.ensures.rows) refl (copied ∙ named) (add-one status.handed) in
    let token : Mark = record { number = status.handed } in
    let equation = call_done o s (record { answer = Ok token; after = marking s }) (record { answer = Ok token; after = _ }) (asked_next (refused long s) (mark_refusal s) None c.in_ok-check.ensures (may_mark s (omega arith) c.if-number-ge1000000000.false)) (ap {B = Call Mark} (λ (t : State). record { answer = Ok token; after = t }) (sym same)) in
    record {
      equation = equation;
      rows = c.save.ensures.rows;
      store = saved ∙ ap (λ (d : ℕ). stored store (d * status.windows) rows) (sym count);
      lent = c.save.ensures.lent;
      asked = asked g long s _ _ equation;
    }
