-- What a step means.
use Rattle.std.specs.Prelude.{◌≡◌, ◌+ℤ◌, Ok, Err, Result}
use Rattle.rulebook.specs.Tables.{place}
use Rattle.rulebook.specs.Rules.{Rule, Means}
use Rattle.rulebook.specs.declared.answer.BookRefusal.{BookRefusal}
use Rattle.rules.specs.Pointwise.{rule_of}
use Rattle.steps.specs.Steps.{step_rule}
use Rattle.steps.specs.declared.step.Step.{Step}

-- the rule that a step means
abbrev pub step_meaning : Step → Rule
step_meaning s = rule_of (step_rule s.distance s.pair.p s.pair.q)

-- an accepted step allows exactly the placings in which the number of q is that of p plus the distance
abbrev pub StepMeans : Result Step BookRefusal → Type 0
StepMeans (Ok s) = Means (step_meaning s) (λ P. place P s.pair.q ≡ place P s.pair.p +ℤ s.distance)
StepMeans (Err f) = Unit {0}
