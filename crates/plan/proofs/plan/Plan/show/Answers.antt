use Rattle.std.proofs.Common.{length, eqb, Some, Option, sym, ap}
use Rattle.std.proofs.lemmas.Result.{err_from_is_err_and}
use Rattle.rulebook.specs.Tables.{window}
use Rattle.plan.specs.States.{State}
use Rattle.plan.specs.Refusals.{refused, or_else, window_refusal, possible_refusal, shown}
use Rattle.plan.specs.Theorem.{ShowsAll}
use Rattle.plan.specs.Plans.{state_of}
use Rattle.plan.specs.declared.answer.PlanRefusal.{PlanRefusal}
use Rattle.plan.specs.declared.answer.PlanRefusal.TheVariants.{Window}
use Rattle.plan.proofs.ProperSets.{proper_sets}
use Rattle.plan.proofs.BoardLaws.{fine}
use Rattle.plan.proofs.CallExits.{window_gone, asked_first, asked_next, no_window}
use Rattle.plan.proofs.Theorem.{shows_all}
use Rattle.plan.proofs.plan.Plan.show.Given as given
use Rattle.plan.proofs.plan.Plan.show.Goals as goal

asked : (g : given.Over) (s : State) → ShowsAll g.B.RuleBook.sets g.P.Policy.choice s
asked g = shows_all g.B.RuleBook.sets g.P.Policy.choice (proper_sets g.B.Kind.Window.kind g.met.B.Kind.Window.proper g.B.RuleBook.sets g.met.B.RuleBook.tied) g.met.P.Policy.chooses

pub returns-in_err-check-clause-asked : goal.returns-in_err-check-clause-asked
returns-in_err-check-clause-asked g c = asked g _

pub returns-in_err-window-clause-equation : goal.returns-in_err-window-clause-equation
returns-in_err-window-clause-equation g c =
    let s : State = state_of g.B.RuleBook g.P.Policy g.B.Kind.Window c.args.self.now c.args.board.now in
    let j = c.args.j in
    let long = length c.args.board.now.store.now in
    let p = err_from_is_err_and c.from_residual-in_err-window.result c.from_residual-in_err-window.ensures.1 in
    let q = window_gone g.B.Kind.Window.numbers s.table j c.window_at.result c.in_err-window.field-0.0 c.window_at.ensures c.in_err-window.ensures.value in
    let f = fine s.table long (eqb (length s.table) s.windows) (sym c.in_ok-check.ensures) in
    let next = asked_first (window_refusal j s.table) (possible_refusal s) Window (sym (no_window s.table j f.windows q.0)) in
    rw (p.1, p.2, q.1) (ap (λ (o : Option PlanRefusal). shown o (window s.table j)) (asked_next (refused long s) (or_else (window_refusal j s.table) (possible_refusal s)) (Some Window) c.in_ok-check.ensures next))

pub returns-in_err-window-clause-asked : goal.returns-in_err-window-clause-asked
returns-in_err-window-clause-asked g c = asked g _

pub returns-then-self-clause-asked : goal.returns-then-self-clause-asked
returns-then-self-clause-asked g c = asked g _

pub returns-clause-asked : goal.returns-clause-asked
returns-clause-asked g c = asked g _
