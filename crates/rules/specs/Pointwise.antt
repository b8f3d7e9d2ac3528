-- Rules that are given window by window: all windows of a rule are made from the old table together.
use Rattle.std.specs.Prelude.{ℕ, suc, Bool, true, false, cond, not, ◌&&◌, ◌||◌, List, [], ◌∷◌, map, length, ℤ, ◌==◌, nat_le, nat_lt, slice_set}
use Rattle.std.specs.List.{range_with_len}
use Rattle.rulebook.specs.Tables.{Table, Placing, all_filled}
use Rattle.rulebook.specs.Rules.{Rule, Outcome, narrowed, emptied}

-- the lowest number of an empty window, the length where there is none
abbrev pub empty_at : Table → ℕ
empty_at [] = 0
empty_at ([] ∷ T) = 0
empty_at ((v ∷ s) ∷ T) = suc (empty_at T)

-- the outcome of a narrowing that made this table: the lowest empty window is named
unfoldable pub judged : Table → Outcome
judged T = cond (nat_lt (empty_at T) (length T)) (emptied (empty_at T)) (narrowed T)

-- the table with a new window at each number, all made from the old table
unfoldable pub make_all : (Table → ℕ → List ℤ) → Table → Table
make_all new T = map (new T) (range_with_len 0 (length T))

unfoldable pub narrow_by : (Table → ℕ → List ℤ) → Table → Outcome
narrow_by new T = judged (make_all new T)

-- a rule given window by window: the windows that it reads, one more than the highest of them, the placings that it allows,
-- and the new window that it makes of a table at each number
pub record Pointwise : Type 0 where
  pub reads : ℕ → Bool
  pub reach : ℕ
  pub allows : Placing → Bool
  pub new : Table → ℕ → List ℤ

-- on a table that it reads beyond, a rule changes nothing
abbrev pub rule_of : Pointwise → Rule
rule_of r = record { reads = r.reads; allows = r.allows; narrow = λ T. cond (nat_le r.reach (length T)) (narrow_by r.new T) (narrowed T) }

-- a new window, for the place of window `at`; no numbers where that would be emptied
pub record Entry : Type 0 where
  pub at : ℕ
  pub new : List ℤ

-- is there a new window for number j
abbrev pub has_entry : List Entry → ℕ → Bool
has_entry [] j = false
has_entry (e ∷ es) j = e.at == j || has_entry es j

-- no window has two new ones
abbrev pub distinct : List Entry → Bool
distinct [] = true
distinct (e ∷ es) = not (has_entry es e.at) && distinct es

-- the table with each new window in its place
abbrev pub replaced : Table → List Entry → Table
replaced T [] = T
replaced T (e ∷ es) = replaced (slice_set T e.at e.new) es

-- what writing new windows into a lent table comes to; where a window has no number, its row fails its check, and nothing is done
abbrev pub written : Table → List Entry → Outcome
written T es = cond (all_filled T) (judged (replaced T es)) (narrowed T)
