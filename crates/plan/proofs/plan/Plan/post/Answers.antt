use Rattle.std.proofs.Common.{◌≡◌, ℕ, length, Ok, Option, Result, refl, rules}
use Rattle.rulebook.specs.Rules.{Rule}
use Rattle.rulebook.specs.declared.answer.BookRefusal.{BookRefusal}
use Rattle.plan.specs.States.{State}
use Rattle.plan.specs.Asking.{ask_posted}
use Rattle.plan.specs.Refusals.{post_call}
use Rattle.plan.specs.Theorem.{Carries, if_ok}
use Rattle.plan.specs.declared.answer.PlanRefusal.{PlanRefusal}
use Rattle.plan.proofs.ProperSets.{proper_sets}
use Rattle.plan.proofs.Theorem.{post_carries}
use Rattle.plan.proofs.plan.Plan.post.Given as given
use Rattle.plan.proofs.plan.Plan.post.Goals as goal

asked : (g : given.Over) (b : g.row.B.Denot) (r : Rule) (o : Option BookRefusal) (long : ℕ) (s : State) (x : Result ℕ PlanRefusal) (t : State) → t.rules ≡ g.B.RuleBook.rules b → post_call r o long s ≡ record { answer = x; after = t } → Carries g.B.RuleBook.sets g.P.Policy.choice (if_ok x (ask_posted r)) s t
asked g b r o long s x t e = post_carries g.B.RuleBook.sets g.P.Policy.choice (proper_sets g.B.Kind.Window.kind g.met.B.Kind.Window.proper g.B.RuleBook.sets g.met.B.RuleBook.tied) g.met.P.Policy.chooses r o long s x t (rw e (g.met.B.RuleBook.few b)) (rw e (g.met.B.RuleBook.lawful b))

pub returns-in_err-check-clause-asked : goal.returns-in_err-check-clause-asked
returns-in_err-check-clause-asked g c = asked g c.args.self.now.book _ (g.B.RuleBook.refuses c.args.self.now.book c.args.rule c.args.self.now.status.windows) (length c.args.board.now.store.now) _ _ _ refl (search rules)

pub returns-in_err-number-clause-asked : goal.returns-in_err-number-clause-asked
returns-in_err-number-clause-asked g c = asked g c.post.new.self _ (g.B.RuleBook.refuses c.args.self.now.book c.args.rule c.args.self.now.status.windows) (length c.args.board.now.store.now) _ _ _ refl (search rules)

pub returns-clause-asked : goal.returns-clause-asked
returns-clause-asked g c = asked g c.post.new.self (g.B.RuleBook.meaning c.args.rule) (g.B.RuleBook.refuses c.args.self.now.book c.args.rule c.args.self.now.status.windows) (length c.args.board.now.store.now) _ (Ok c.in_ok-number.number) _ refl (search rules)
