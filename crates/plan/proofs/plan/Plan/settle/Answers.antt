use Rattle.std.proofs.Common.{eqb, map, length, Ok, sym, refl, arith, rules}
use Rattle.plan.specs.States.{State, state}
use Rattle.plan.specs.Plans.{state_of}
use Rattle.plan.specs.declared.answer.Verdict.TheVariants.{Impossible}
use Rattle.plan.proofs.ProperSets.{ProperSets, proper_sets}
use Rattle.plan.proofs.BoardLaws.{fine, all_kinds}
use Rattle.plan.proofs.CallExits.{settle_impossible, settle_ran}
use Rattle.plan.proofs.Theorem.{settle-carries, settle-says, settle-bound, settle_agrees}
use Rattle.plan.proofs.plan.Plan.settle.Given as given
use Rattle.plan.proofs.plan.Plan.settle.Goals as goal

proper : (g : given.Over) → ProperSets g.B.RuleBook.sets
proper g = proper_sets g.B.Kind.Window.kind g.met.B.Kind.Window.proper g.B.RuleBook.sets g.met.B.RuleBook.tied

pub returns-in_err-check-clause-asked : goal.returns-in_err-check-clause-asked
returns-in_err-check-clause-asked g c = settle-carries g.B.RuleBook.sets g.P.Policy.choice (proper g) g.met.P.Policy.chooses _ (length c.args.board.now.store.now) c.from_residual.result _ (search rules)

pub returns-then-self : goal.returns-then-self
returns-then-self g c =
    let sets = g.B.RuleBook.sets in
    let choice = g.P.Policy.choice in
    let chooses = g.met.P.Policy.chooses in
    let s : State = state_of g.B.RuleBook g.P.Policy g.B.Kind.Window c.args.self.now c.args.board.now in
    let long = length c.args.board.now.store.now in
    let answer = Ok (Impossible 0 64 64) in
    let e = settle_impossible choice long s (sym c.in_ok-check.ensures) c.if-self.true in
    let says = settle-says sets choice (proper g) chooses s long answer s e in
    record {
      equation = e;
      rows = tt;
      store = refl;
      lent = (refl, refl);
      asked = settle-carries sets choice (proper g) chooses s long answer s e;
      widest = says;
      bound = omega arith;
      agrees = settle_agrees sets choice (proper g) chooses s answer s says;
    }

pub run-verdict-requires-clause-windows : goal.run-verdict-requires-clause-windows
run-verdict-requires-clause-windows g c =
    let stands = g.B.Kind.Window.stands in
    let rows = c.args.board.now.rows.now in
    all_kinds stands g.B.RuleBook.sets rows (λ row n. (g.met.B.RuleBook.tied (stands row)).1 (g.met.B.Kind.Window.rows row n)) (fine (map stands rows) (length c.args.board.now.store.now) (eqb (length (map stands rows)) c.args.self.now.status.windows) (sym c.in_ok-check.ensures)).windows

pub returns : goal.returns
returns g c =
    let sets = g.B.RuleBook.sets in
    let choice = g.P.Policy.choice in
    let stands = g.B.Kind.Window.stands in
    let chooses = g.met.P.Policy.chooses in
    let plan = c.args.self.now in
    let rows = c.args.board.now.rows.now in
    let store = c.args.board.now.store.now in
    let long = length store in
    let s : State = state_of g.B.RuleBook g.P.Policy g.B.Kind.Window plan c.args.board.now in
    let r = c.run-verdict.result in
    let e = settle_ran choice long s.rules s.waiting s.impossible s.table s.windows s.marks s.handed r (g.P.Policy.waiting c.run-verdict.new.policy) c.is_impossible-self.result (map stands c.run-verdict.new.rows) (sym c.in_ok-check.ensures) c.if-self.false c.run-verdict.ensures c.is_impossible-self.ensures in
    let t : State = state s.rules (g.P.Policy.waiting c.run-verdict.new.policy) c.is_impossible-self.result (map stands c.run-verdict.new.rows) s.windows s.marks s.handed in
    let says = settle-says sets choice (proper g) chooses s long (Ok r) t e in
    record {
      equation = e;
      rows = tt;
      store = refl;
      lent = (refl, refl);
      asked = settle-carries sets choice (proper g) chooses s long (Ok r) t e;
      widest = says;
      bound = settle-bound sets choice (proper g) chooses s long (Ok r) t e (g.met.B.RuleBook.few plan.book) (g.met.B.RuleBook.lawful plan.book) (λ o. all_kinds stands sets rows (λ row n. (g.met.B.RuleBook.tied (stands row)).1 (g.met.B.Kind.Window.rows row n)) (fine (map stands rows) long (eqb (length (map stands rows)) plan.status.windows) o).windows);
      agrees = settle_agrees sets choice (proper g) chooses s (Ok r) t says;
    }
