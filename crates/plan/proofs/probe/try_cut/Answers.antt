use Rattle.std.proofs.Common.{◌≡◌, ℕ, length, Result, refl, ap, ◌∙◌}
use Rattle.std.proofs.lemmas.Result.{err_from_is_err_and}
use Rattle.plan.specs.States.{State}
use Rattle.plan.specs.Plans.{state_of}
use Rattle.plan.specs.Probe.{try_call, unless_ended}
use Rattle.plan.specs.Asking.{ask_same}
use Rattle.plan.specs.Theorem.{Carries}
use Rattle.plan.specs.declared.answer.Verdict.{Verdict}
use Rattle.plan.specs.declared.answer.PlanRefusal.{PlanRefusal}
use Rattle.plan.proofs.ProperSets.{proper_sets}
use Rattle.plan.proofs.ProbeLaws.{mark_long, tried}
use Rattle.plan.proofs.ProbeTheorem.{try_carries}
use Rattle.plan.proofs.probe.try_cut.Given as given
use Rattle.plan.proofs.probe.try_cut.Goals as goal
use Rattle.plan.proofs.probe.try_cut.Goals.{After-take_back}

asked : (g : given.Over) (j : ℕ) (w : g.row.B-Kind.Denot) (long : ℕ) (s : State) (r : Result Verdict PlanRefusal) (t : State) → try_call g.P.Policy.choice j (g.B.Kind.Window.numbers w) long s ≡ record { answer = r; after = t } → Carries g.B.RuleBook.sets g.P.Policy.choice ask_same s t
asked g j w = try_carries g.B.RuleBook.sets g.P.Policy.choice (proper_sets g.B.Kind.Window.kind g.met.B.Kind.Window.proper g.B.RuleBook.sets g.met.B.RuleBook.tied) g.met.P.Policy.chooses j (g.B.Kind.Window.numbers w) ((g.met.B.RuleBook.tied (g.B.Kind.Window.numbers w)).1 (g.met.B.Kind.Window.kinds w))

-- marked, cut, settled, and taken back
equation : (g : given.Over) (c : After-take_back g) → try_call g.P.Policy.choice c.args.j (g.B.Kind.Window.numbers c.args.window) (length c.args.board.now.store.now) (state_of g.B.RuleBook g.P.Policy g.B.Kind.Window c.args.plan.now c.args.board.now) ≡ record { answer = unless_ended c.take_back.result c.cut_and_settle-answer.result; after = state_of g.B.RuleBook g.P.Policy g.B.Kind.Window c.take_back.new.self c.take_back.new.board }
equation g c =
    let s : State = state_of g.B.RuleBook g.P.Policy g.B.Kind.Window c.args.plan.now c.args.board.now in
    let s₁ : State = state_of g.B.RuleBook g.P.Policy g.B.Kind.Window c.mark.new.self c.mark.new.board in
    let u : State = state_of g.B.RuleBook g.P.Policy g.B.Kind.Window c.cut_and_settle-answer.new.plan c.cut_and_settle-answer.new.board in
    let t : State = state_of g.B.RuleBook g.P.Policy g.B.Kind.Window c.take_back.new.self c.take_back.new.board in
    let store = c.args.board.now.store.now in
    let l₁ = length c.mark.new.board.store.now in
    let l₂ = length c.cut_and_settle-answer.new.board.store.now in
    let m = c.in_ok-mark.mark in
    let e₁ : l₁ ≡ length store = mark_long g.B.Kind.Window.stands c.args.board.now.rows.now store c.mark.new.board.store.now s s₁ m refl c.in_ok-mark.ensures.equation c.in_ok-mark.ensures.store in
    let e₂ : l₂ ≡ length store = ap length c.cut_and_settle-answer.ensures.store ∙ e₁ in
    tried g.P.Policy.choice c.args.j (g.B.Kind.Window.numbers c.args.window) (length store) l₁ l₂ s s₁ u t m c.cut_and_settle-answer.result c.take_back.result e₁ e₂ c.in_ok-mark.ensures.equation c.cut_and_settle-answer.ensures.equation c.take_back.ensures.equation

pub returns-in_err-take_back-clause-equation : goal.returns-in_err-take_back-clause-equation
returns-in_err-take_back-clause-equation g c =
    let p = err_from_is_err_and c.from_residual-in_err-take_back.result c.from_residual-in_err-take_back.ensures.1 in
    rw (p.1, p.2) (rw c.in_err-take_back.was at (equation g (goal.at.returns-in_err-take_back-clause-equation g c).After-take_back))

pub returns-in_err-take_back-clause-asked : goal.returns-in_err-take_back-clause-asked
returns-in_err-take_back-clause-asked g c = asked g c.args.j c.args.window (length c.args.board.now.store.now) _ c.from_residual-in_err-take_back.result _ (returns-in_err-take_back-clause-equation g c)

pub returns-clause-equation : goal.returns-clause-equation
returns-clause-equation g c = rw c.in_ok-take_back.was at (equation g (goal.at.returns-clause-equation g c).After-take_back)

pub returns-clause-asked : goal.returns-clause-asked
returns-clause-asked g c = asked g c.args.j c.args.window (length c.args.board.now.store.now) _ c.cut_and_settle-answer.result _ (returns-clause-equation g c)
