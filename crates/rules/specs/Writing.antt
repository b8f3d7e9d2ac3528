-- New windows in a bounded list, and what writing them into a table comes to.
use Rattle.std.specs.Prelude.{◌≡◌, ℕ, Bool, true, cond, not, ◌&&◌, List, [], ◌∷◌, ◌++◌, map, length, ℤ, Some, None, Option, ◌≢◌, nat_lt, slice_index_or}
use Rattle.rulebook.specs.Tables.{filled}
use Rattle.rules.specs.Pointwise.{Entry, has_entry}
use Rattle.rules.specs.declared.new_windows.NewWindow.{NewWindow}

-- the numbers of a new window, none where the window would be emptied
abbrev pub numbers_of : {W : Type 0} → (W → List ℤ) → Option W → List ℤ
numbers_of numbers None = []
numbers_of numbers (Some w) = numbers w

abbrev pub entry : {W : Type 0} → (W → List ℤ) → NewWindow W → Entry
entry numbers e = record { at = e.at; new = numbers_of numbers e.new }

-- the new windows of a list
abbrev pub listed : {W : Type 0} → (W → List ℤ) → List (NewWindow W) → List Entry
listed numbers items = map (entry numbers) items

-- has each new window a number below 64
abbrev pub near : List Entry → Bool
near [] = true
near (e ∷ es) = nat_lt e.at 64 && near es

-- the list with one more new window at its end; where it holds 8, for a window past 63, and for one that has a new window
-- already, nothing is added
abbrev pub pushed : List Entry → Entry → List Entry
pushed es e = cond (nat_lt (length es) 8 && (nat_lt e.at 64 && not (has_entry es e.at))) (es ++ (e ∷ [])) es

-- the lowest window below n that would be emptied, n if there is none
abbrev pub lowest_emptied : ℕ → List Entry → ℕ
lowest_emptied n [] = n
lowest_emptied n (e ∷ es) = lowest_emptied (cond (not (filled e.new) && nat_lt e.at n) e.at n) es

-- the rows are the same but at one place
abbrev pub OthersKept : {Row : Type 0} → ℕ → List Row → List Row → Type 0
OthersKept {Row} at old new = (j : ℕ) (d : Row) → (j ≢ at) → slice_index_or new j d ≡ slice_index_or old j d
