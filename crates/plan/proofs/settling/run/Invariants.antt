use Rattle.std.proofs.Common.{◌+◌, ◌*◌, map, length}
use Rattle.windows.specs.Sets.{sizes}
use Rattle.plan.proofs.RunLaws.{Running}
use Rattle.plan.proofs.settling.run.Given as goal

abbrev pub invariant-loop-rule : goal.invariant-loop-rule
invariant-loop-rule g l = Running g.B.RuleBook.sets g.P.Policy.choice (g.B.RuleBook.rules l.book) (g.P.Policy.waiting l.initial.policy) (map g.B.Kind.Window.stands l.initial.rows) l.steps (g.P.Policy.waiting l.policy) (map g.B.Kind.Window.stands l.rows)

abbrev pub decreases-loop-rule : goal.decreases-loop-rule
decreases-loop-rule g l = length (g.B.RuleBook.rules l.book) * sizes (map g.B.Kind.Window.stands l.rows) + length (g.P.Policy.waiting l.policy)
