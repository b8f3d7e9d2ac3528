use Rattle.std.proofs.Common.{◌≡◌, ◌*◌, map, drop, ◌+ℤ◌}
use Rattle.windows.specs.Rows.{span_numbers}
use Rattle.sums.specs.Sums.{smallest, largest}
use Rattle.sums.specs.Sizes.{Small}
use Rattle.sums.specs.Steps.{all_read}
use Rattle.sums.proofs.sum.Sum.extremes.Given as goal

-- what is left gives the rest
abbrev pub invariant-loop-term : goal.invariant-loop-term
invariant-loop-term l =
    let T = map span_numbers l.rows in
    let left = drop l.term-index l.term-items in
    record { read : all_read left T ≡ all_read l.term-items T; least : l.sums.from +ℤ smallest left T ≡ smallest l.term-items T; greatest : l.sums.to +ℤ largest left T ≡ largest l.term-items T; least_small : Small (10000000000 * l.term-index) l.sums.from; greatest_small : Small (10000000000 * l.term-index) l.sums.to }
