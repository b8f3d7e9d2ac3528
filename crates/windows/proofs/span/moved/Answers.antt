use Rattle.std.proofs.Common.{arith}
use Rattle.std.proofs.lemmas.Int.{ints}
use Rattle.windows.specs.SetLaws.{tests}
use Rattle.windows.proofs.span.moved.Goals as goal

pub returns-then-v-end : goal.returns-then-v-end
returns-then-v-end c =
    let fe = c.ranges.end in
    let fb = c.ranges.by in
    grind (arith, ints, tests)

pub returns-else-v-end : goal.returns-else-v-end
returns-else-v-end c = let fe = c.ranges.end in grind (arith, ints, tests)
