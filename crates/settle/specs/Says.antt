-- What a settling says of the windows that were given and of the rules.
use Rattle.std.specs.Prelude.{◌≡◌, ℕ, ◌<◌, true, false, List, length, ℤ, Ok, Err, Result, ◌≢◌}
use Rattle.windows.specs.Sets.{has}
use Rattle.rulebook.specs.Tables.{Table, Placing, window, place, Places}
use Rattle.rulebook.specs.Rules.{Rule}
use Rattle.plan.specs.Steady.{Fits}
use Rattle.plan.specs.Settling.{is_impossible}
use Rattle.plan.specs.Asking.{ask_made, Answered}
use Rattle.plan.specs.declared.answer.PlanRefusal.{PlanRefusal}
use Rattle.plan.specs.declared.answer.Verdict.{Verdict}

-- what a settling that answered v and left table U says of the windows T and the rules
pub record Says (sets : List ℤ → Type 0) (rules : List Rule) (T : Table) (v : Verdict) (U : Table) : Type 0 where
  -- Settled beside the widest table inside the windows that no rule narrows, and Impossible exactly if there is no such table
  pub answered : Answered sets (ask_made rules T) v U
  -- every placing that fits the windows and the rules lies inside the windows left
  pub inside : (p : Placing) → Fits T rules p → Places p U
  -- a number that is missing from a window left is in no fitting placing
  pub missing : (j : ℕ) (n : ℤ) → j < length T → has (window U j) n ≡ false → (p : Placing) → Fits T rules p → place p j ≢ n
  -- where the answer is Impossible, no placing fits
  pub none : is_impossible v ≡ true → (p : Placing) → Fits T rules p → ⊥

-- the same of a settling that may be refused
abbrev pub SaysUnless : (List ℤ → Type 0) → List Rule → Table → Result Verdict PlanRefusal → Table → Type 0
SaysUnless sets rules T (Ok v) U = Says sets rules T v U
SaysUnless sets rules T (Err f) U = Unit {0}
