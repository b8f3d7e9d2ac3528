use Rattle.std.proofs.Common.{◌≡◌, true, false, eqb, List, ℕ, ℤ, [], map, length, set, Some, Ok, Result, sym, ap, ◌∙◌, subst, rules}
use Rattle.std.proofs.lemmas.List.{map-set}
use Rattle.std.proofs.lemmas.Result.{err_from_is_err_and}
use Rattle.windows.specs.Sets.{same_set, meet}
use Rattle.rulebook.specs.Tables.{window}
use Rattle.plan.specs.States.{State}
use Rattle.plan.specs.Calls.{cutting}
use Rattle.plan.specs.Asking.{ask_cut}
use Rattle.plan.specs.Refusals.{refused, or_else, window_refusal, cut_call}
use Rattle.plan.specs.Theorem.{Carries, if_ok}
use Rattle.plan.specs.Plans.{state_of}
use Rattle.plan.specs.declared.answer.Cutting.{Cutting}
use Rattle.plan.specs.declared.answer.PlanRefusal.{PlanRefusal}
use Rattle.plan.specs.declared.answer.PlanRefusal.TheVariants.{Window}
use Rattle.plan.proofs.ProperSets.{proper_sets}
use Rattle.plan.proofs.BoardLaws.{fine}
use Rattle.plan.proofs.CallExits.{window_there, window_gone, asked_next, call_refused, there_window, no_window, cut_impossible, cut_unchanged, cut_changed}
use Rattle.plan.proofs.Theorem.{cut_carries}
use Rattle.plan.proofs.plan.Plan.cut.Given as given
use Rattle.plan.proofs.plan.Plan.cut.Goals as goal

asked : (g : given.Over) (j : ℕ) (w : g.row.B-Kind.Denot) (long : ℕ) (s : State) (r : Result Cutting PlanRefusal) (t : State) → cut_call j (g.B.Kind.Window.numbers w) long s ≡ record { answer = r; after = t } → Carries g.B.RuleBook.sets g.P.Policy.choice (if_ok r (ask_cut j (g.B.Kind.Window.numbers w))) s t
asked g j w = cut_carries g.B.RuleBook.sets g.P.Policy.choice (proper_sets g.B.Kind.Window.kind g.met.B.Kind.Window.proper g.B.RuleBook.sets g.met.B.RuleBook.tied) g.met.P.Policy.chooses j (g.B.Kind.Window.numbers w) ((g.met.B.RuleBook.tied (g.B.Kind.Window.numbers w)).1 (g.met.B.Kind.Window.kinds w))

pub returns-in_err-check-clause-asked : goal.returns-in_err-check-clause-asked
returns-in_err-check-clause-asked g c = asked g c.args.j c.args.window (length c.args.board.now.store.now) _ _ _ (search rules)

pub returns-in_err-old-clause-equation : goal.returns-in_err-old-clause-equation
returns-in_err-old-clause-equation g c =
    let s : State = state_of g.B.RuleBook g.P.Policy g.B.Kind.Window c.args.self.now c.args.board.now in
    let j = c.args.j in
    let long = length c.args.board.now.store.now in
    let other = g.B.Kind.Window.numbers c.args.window in
    let p = err_from_is_err_and c.from_residual-in_err-old.result c.from_residual-in_err-old.ensures.1 in
    let q = window_gone g.B.Kind.Window.numbers s.table j c.window_at.result c.in_err-old.field-0.0 c.window_at.ensures c.in_err-old.ensures.value in
    let f = fine s.table long (eqb (length s.table) s.windows) (sym c.in_ok-check.ensures) in
    rw (p.1, p.2, q.1) (call_refused (or_else (refused long s) (window_refusal j s.table)) Window s (record { answer = Ok (cutting j other s).answer; after = (cutting j other s).after }) (asked_next (refused long s) (window_refusal j s.table) (Some Window) c.in_ok-check.ensures (no_window s.table j f.windows q.0)))

pub returns-in_err-old-clause-asked : goal.returns-in_err-old-clause-asked
returns-in_err-old-clause-asked g c = asked g c.args.j c.args.window (length c.args.board.now.store.now) _ _ _ (returns-in_err-old-clause-equation g c)

pub returns-in_default-clause-equation : goal.returns-in_default-clause-equation
returns-in_default-clause-equation g c =
    let s : State = state_of g.B.RuleBook g.P.Policy g.B.Kind.Window c.args.self.now c.args.board.now in
    let j = c.args.j in
    let other = g.B.Kind.Window.numbers c.args.window in
    let w = c.in_ok-old.old in
    let old = window_there g.B.Kind.Window.numbers s.table j c.window_at.result w c.window_at.ensures c.in_ok-old.ensures.value in
    cut_impossible j other (length c.args.board.now.store.now) s (sym c.in_ok-check.ensures) (there_window s.table j (g.B.Kind.Window.numbers w) old (g.met.B.Kind.Window.kinds w).some) (subst (λ (x : List ℤ). meet x other ≡ []) old c.in_default.ensures)

pub returns-in_default-clause-asked : goal.returns-in_default-clause-asked
returns-in_default-clause-asked g c = asked g c.args.j c.args.window (length c.args.board.now.store.now) _ _ _ (returns-in_default-clause-equation g c)

pub returns-then-alike-clause-equation : goal.returns-then-alike-clause-equation
returns-then-alike-clause-equation g c =
    let s : State = state_of g.B.RuleBook g.P.Policy g.B.Kind.Window c.args.self.now c.args.board.now in
    let j = c.args.j in
    let other = g.B.Kind.Window.numbers c.args.window in
    let new = g.B.Kind.Window.numbers c.in-Some.new in
    let w = c.in_ok-old.old in
    let old = window_there g.B.Kind.Window.numbers s.table j c.window_at.result w c.window_at.ensures c.in_ok-old.ensures.value in
    let q : same_set (window s.table j) new ≡ true = ap (λ (x : List ℤ). same_set x new) (sym old) ∙ sym c.if-alike.ensures in
    cut_unchanged j other (length c.args.board.now.store.now) s (sym c.in_ok-check.ensures) (there_window s.table j (g.B.Kind.Window.numbers w) old (g.met.B.Kind.Window.kinds w).some) new (ap (λ (x : List ℤ). meet x other) (sym old) ∙ sym c.in-Some.ensures) (g.met.B.Kind.Window.kinds c.in-Some.new).some q

pub returns-then-alike-clause-asked : goal.returns-then-alike-clause-asked
returns-then-alike-clause-asked g c = asked g c.args.j c.args.window (length c.args.board.now.store.now) _ _ _ (returns-then-alike-clause-equation g c)

pub returns-clause-equation : goal.returns-clause-equation
returns-clause-equation g c =
    let stands = g.B.Kind.Window.stands in
    let s : State = state_of g.B.RuleBook g.P.Policy g.B.Kind.Window c.args.self.now c.args.board.now in
    let rows = c.args.board.now.rows.now in
    let j = c.args.j in
    let long = length c.args.board.now.store.now in
    let other = g.B.Kind.Window.numbers c.args.window in
    let new = g.B.Kind.Window.numbers c.in-Some.new in
    let w = c.in_ok-old.old in
    let old = window_there g.B.Kind.Window.numbers s.table j c.window_at.result w c.window_at.ensures c.in_ok-old.ensures.value in
    let q : same_set (window s.table j) new ≡ false = ap (λ (x : List ℤ). same_set x new) (sym old) ∙ sym c.if-alike.ensures in
    let t : map stands (set rows j c.row.result) ≡ set s.table j new = map-set stands rows j c.row.result ∙ ap (set s.table j) c.row.ensures in
    cut_changed j other long s (sym c.in_ok-check.ensures) (there_window s.table j (g.B.Kind.Window.numbers w) old (g.met.B.Kind.Window.kinds w).some) new (map stands (set rows j c.row.result)) (g.P.Policy.waiting c.put_readers.new.policy) (ap (λ (x : List ℤ). meet x other) (sym old) ∙ sym c.in-Some.ensures) (g.met.B.Kind.Window.kinds c.in-Some.new).some q t c.put_readers.ensures

pub returns-clause-asked : goal.returns-clause-asked
returns-clause-asked g c = asked g c.args.j c.args.window (length c.args.board.now.store.now) _ _ _ (returns-clause-equation g c)
