use Rattle.std.proofs.Common.{arith}
use Rattle.std.proofs.lemmas.Int.{ints}
use Rattle.windows.specs.SetLaws.{tests}
use Rattle.sums.proofs.questions.weighs.Goals as goal

pub returns-then-contains : goal.returns-then-contains
returns-then-contains c =
    let e = c.new.ensures in
    let l = rw e.start at c.if-contains.ensures.cases.0 in
    let h = rw e.end at c.if-contains.ensures.cases.1 in
    grind (arith, ints, tests)
