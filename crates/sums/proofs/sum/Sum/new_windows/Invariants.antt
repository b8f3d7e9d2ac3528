use Rattle.std.proofs.Common.{◌≡◌, map, take}
use Rattle.windows.specs.Sets.{range}
use Rattle.windows.specs.Rows.{span_numbers}
use Rattle.rules.specs.Made.{made}
use Rattle.sums.specs.Sums.{is_exact, sum_new}
use Rattle.sums.specs.Steps.{entries}
use Rattle.sums.proofs.sum.Sum.new_windows.Given as goal

-- an entry for each term so far
abbrev pub invariant-loop-term : goal.invariant-loop-term
invariant-loop-term l = made (λ w. range w.lo w.hi) l.new ≡ entries (sum_new l.term-items l.self.bound (is_exact l.self.relation) (map span_numbers l.rows)) (take l.term-index l.term-items)
