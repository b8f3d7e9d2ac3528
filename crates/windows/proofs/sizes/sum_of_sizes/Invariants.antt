use Rattle.std.proofs.Common.{◌≡◌, ◌+◌, ◌*◌, ◌≤◌, map, drop}
use Rattle.windows.specs.Sets.{sizes}
use Rattle.windows.proofs.sizes.sum_of_sizes.Given as goal

-- what is left gives the rest
abbrev pub invariant-loop-row : goal.invariant-loop-row
invariant-loop-row g l = (l.sum + sizes (map g.W.Window.stands (drop l.row-index l.rows)) ≡ sizes (map g.W.Window.stands l.rows)) × (l.sum ≤ 2000001 * l.row-index)
