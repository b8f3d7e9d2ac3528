-- What settling rows once does.
use Rattle.std.specs.Prelude.{ℕ, List, map, length, ℤ, Some, None, Ok, Err, Option, Result}
use Rattle.rulebook.specs.Tables.{Table}
use Rattle.rulebook.specs.Rules.{Rule}
use Rattle.policies.specs.Waiting.{first}
use Rattle.plan.specs.Settling.{settling}
use Rattle.plan.specs.Calls.{making}
use Rattle.plan.specs.Refusals.{make_refused}
use Rattle.plan.specs.Views.{store_after}
use Rattle.plan.specs.declared.answer.PlanRefusal.{PlanRefusal}
use Rattle.plan.specs.declared.answer.Verdict.{Verdict}

-- what settling rows answers, and the windows after it
pub record Ran : Type 0 where
  pub answer : Result Verdict PlanRefusal
  pub after : Table

-- a plan of these rules and windows, settled first-come, unless its making is refused
abbrev pub ran_unless : Option PlanRefusal → List Rule → Table → Ran
ran_unless (Some f) rules T = record { answer = Err f; after = T }
ran_unless None rules T = record { answer = Ok (settling first (making rules T)).verdict; after = (settling first (making rules T)).after.table }

-- the same on a board with a store of this length
abbrev pub ran : List Rule → Table → ℕ → Ran
ran rules T long = ran_unless (make_refused rules T long) rules T

-- the same over rows and a store
abbrev pub rows_ran : {Row : Type 0} → (Row → List ℤ) → List Rule → List Row → List Row → Ran
rows_ran stands rules rows store = ran rules (map stands rows) (length store)

-- a settling with this answer that left these rows
abbrev pub ran_to : {Row : Type 0} → (Row → List ℤ) → Result Verdict PlanRefusal → List Row → Ran
ran_to stands r rows = record { answer = r; after = map stands rows }

-- the store after a settling with this answer: the windows as they were given stand at its front
abbrev pub given_to : {A E Row : Type 0} → Result A E → List Row → List Row → List Row
given_to r store rows = store_after r store 0 rows
