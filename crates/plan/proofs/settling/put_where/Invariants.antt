use Rattle.std.proofs.Common.{◌≡◌, ℕ, Bool}
use Rattle.policies.specs.Waiting.{puts}
use Rattle.plan.specs.Rows.{Tests}
use Rattle.plan.proofs.settling.put_where.Given as goal

abbrev pub invariant-loop-i : goal.invariant-loop-i
invariant-loop-i g l = (f : ℕ → Bool) → Tests (goal.F-post g l.test) l.n f → g.P.Policy.waiting l.policy ≡ puts f l.i (g.P.Policy.waiting l.initial.policy)
