-- What a plan and its board are worth: all that the calls read and write.
use Rattle.std.specs.Prelude.{ℕ, Bool, true, List}
use Rattle.rulebook.specs.Tables.{Table}
use Rattle.rulebook.specs.Rules.{Rule}

-- an open mark: its number, and the count of rules, the impossible flag and the table that it has copied
pub record Copy : Type 0 where
  pub number : ℕ
  pub count : ℕ
  pub impossible : Bool
  pub table : Table

-- a plan with its board: the book's rules, those that wait, the impossible flag, the board's windows,
-- the count of windows that the plan is for, the open marks, the newest first, and how many marks were handed out
pub record State : Type 0 where
  pub rules : List Rule
  pub waiting : List ℕ
  pub impossible : Bool
  pub table : Table
  pub windows : ℕ
  pub marks : List Copy
  pub handed : ℕ

-- the state with these parts
abbrev pub state : List Rule → List ℕ → Bool → Table → ℕ → List Copy → ℕ → State
state rules w b T n cs h = record { rules = rules; waiting = w; impossible = b; table = T; windows = n; marks = cs; handed = h }

-- another table and waiting list
abbrev pub at : State → Table → List ℕ → State
at s T w = state s.rules w s.impossible T s.windows s.marks s.handed

-- impossible, with another waiting list
abbrev pub failed : State → List ℕ → State
failed s w = state s.rules w true s.table s.windows s.marks s.handed
