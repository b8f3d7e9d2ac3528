-- Tables of windows, and placings.
use Rattle.std.specs.Prelude.{◌≡◌, ℕ, ◌<◌, Bool, true, false, not, ◌&&◌, List, [], ◌∷◌, length, ℤ, pos, slice_index_or}
use Rattle.windows.specs.Sets.{In, Within, same_set}

-- windows of one kind, numbered from 0
abbrev pub Table : Type 0
Table = List (List ℤ)

-- one number for each window
abbrev pub Placing : Type 0
Placing = List ℤ

-- window number j of a table, and the number that a placing has for it
abbrev pub window : Table → ℕ → List ℤ
window T j = slice_index_or T j []

abbrev pub place : Placing → ℕ → ℤ
place p j = slice_index_or p j (pos 0)

-- T is as long as U, and each window's numbers are among those of U's window of that number
pub record Inside (T U : Table) : Type 0 where
  pub long : length T ≡ length U
  pub each : (j : ℕ) → Within (window T j) (window U j)

-- the placing has one number out of each window
pub record Places (p : Placing) (T : Table) : Type 0 where
  pub long : length p ≡ length T
  pub each : (j : ℕ) → j < length T → In (place p j) (window T j)

-- every window of the table is one of these sets
abbrev pub Every : (List ℤ → Type 0) → Table → Type 0
Every sets T = (j : ℕ) → j < length T → sets (window T j)

-- is window j another one in U
abbrev pub differs : Table → Table → ℕ → Bool
differs T U j = not (same_set (window T j) (window U j))

-- has the set a number
abbrev pub filled : List ℤ → Bool
filled [] = false
filled (v ∷ s) = true

-- has every window a number: a row that fails its check stands for none
abbrev pub all_filled : Table → Bool
all_filled [] = true
all_filled (s ∷ T) = filled s && all_filled T
