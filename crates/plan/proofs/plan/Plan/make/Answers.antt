use Rattle.std.proofs.Common.{◌≡◌, ℕ, leb, map, length, None, Option, sym, refl, ap, ◌∙◌, subst}
use Rattle.std.proofs.lemmas.List.{length-map}
use Rattle.rulebook.specs.Answers.{reach_of}
use Rattle.plan.specs.States.{State}
use Rattle.plan.specs.Asking.{Reached, made, ask_made}
use Rattle.plan.specs.Refusals.{board_refusal, make_refused, Made, made_unless}
use Rattle.plan.specs.Views.{copies}
use Rattle.plan.specs.declared.answer.PlanRefusal.{PlanRefusal}
use Rattle.plan.proofs.ProperSets.{proper_sets}
use Rattle.plan.proofs.BoardLaws.{fine, all_kinds}
use Rattle.plan.proofs.MarkLaws.{same_state}
use Rattle.plan.proofs.CallLaws.{reached_holds}
use Rattle.plan.proofs.plan.Plan.make.Goals as goal

pub returns : goal.returns
returns g c =
    let sets = g.B.RuleBook.sets in
    let stands = g.B.Kind.Window.stands in
    let rules = g.B.RuleBook.rules c.args.book in
    let rows = c.args.board.now.rows.now in
    let store = c.args.board.now.store.now in
    let T = map stands rows in
    let status = c.new-status-2.result in
    let e : make_refused rules T (length store) ≡ None = sym (c.in_default.ensures ∙ ap (λ (n : ℕ). board_refusal T (length store) (leb n (length T))) c.reach.ensures) in
    let same = same_state {q = rules} {T = T} refl c.put_all.ensures c.new-status-2.ensures.possible refl (c.new-status-2.ensures.windows ∙ sym (length-map rows stands)) (ap (λ ms. copies stands ms status.windows store (length ms)) c.new-status-2.ensures.marks) c.new-status-2.ensures.handed in
    let kinds = all_kinds stands sets rows (λ row n. (g.met.B.RuleBook.tied (stands row)).1 (g.met.B.Kind.Window.rows row n)) (fine T (length store) (leb (reach_of rules 64) (length T)) e).windows in
    let reached = subst (Reached sets g.P.Policy.choice (ask_made rules T)) (sym same) (made rules T (g.met.B.RuleBook.few c.args.book) (g.met.B.RuleBook.lawful c.args.book) kinds) in
    record {
      equation = ap (λ (o : Option PlanRefusal). made_unless o rules (g.P.Policy.waiting c.args.policy) T) e ∙ ap {B = Made} (λ (t : State). record { refusal = None; after = t }) (sym same);
      book = refl;
      policy = tt;
      asked = (reached, reached_holds sets g.P.Policy.choice (proper_sets g.B.Kind.Window.kind g.met.B.Kind.Window.proper sets g.met.B.RuleBook.tied) g.met.P.Policy.chooses (ask_made rules T) _ reached);
    }
