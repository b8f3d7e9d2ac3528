use Rattle.std.proofs.Common.{◌≡◌, length}
use Rattle.sums.specs.Questions.{apart}
use Rattle.sums.proofs.questions.apart.Given as goal

-- what is left gives the answer
abbrev pub invariant-loop-rest : goal.invariant-loop-rest
invariant-loop-rest l = apart l.rest ≡ apart l.terms

abbrev pub decreases-loop-rest : goal.decreases-loop-rest
decreases-loop-rest l = length l.rest
