-- Which rules are put to wait.
use Rattle.std.specs.Prelude.{◌≡◌, ℕ, ◌<◌, Bool, ◌&&◌, List, slice_index_or}
use Rattle.rulebook.specs.Rules.{Rule, missing}
use Rattle.rulebook.specs.Answers.{any, member}
use Rattle.rulebook.specs.declared.set.WindowSet.{WindowSet}

-- is window j in the set, and does rule i read it
abbrev pub hits : List Rule → WindowSet → ℕ → ℕ → Bool
hits rules changes i j = member changes j && (slice_index_or rules i missing).reads j

-- does rule i read a window of the set below n
abbrev pub wakes : List Rule → WindowSet → ℕ → ℕ → Bool
wakes rules changes n i = any (hits rules changes i) n

-- a test answers f at each number below n
abbrev pub Tests : (ℕ → Bool → Type 0) → ℕ → (ℕ → Bool) → Type 0
Tests answers n f = (i : ℕ) (b : Bool) → i < n → answers i b → b ≡ f i
