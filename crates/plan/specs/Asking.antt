-- What was asked of a plan, and how a plan that was asked for it came about.
use Rattle.std.specs.Prelude.{◌≡◌, ℕ, ◌<◌, ◌≤◌, true, cond, List, [], ◌∷◌, ◌++◌, length, ℤ, ◌==◌, slice_index_or, slice_set}
use Rattle.windows.specs.Sets.{meet}
use Rattle.rulebook.specs.Tables.{Table, Placing, window, Inside, Places, Every}
use Rattle.rulebook.specs.Rules.{Rule, Lawful, missing}
use Rattle.plan.specs.Steady.{Steady, Fits}
use Rattle.plan.specs.States.{State}
use Rattle.plan.specs.Settling.{settling}
use Rattle.plan.specs.Calls.{making, posting, cutting, marking, keeping, taking_back}
use Rattle.plan.specs.declared.answer.Verdict.{Verdict}
use Rattle.plan.specs.declared.answer.Verdict.TheVariants.{Settled, Impossible}

-- what was asked when the mark of this number was handed out
pub record Held : Type 0 where
  pub number : ℕ
  pub asked : Table
  pub standing : List Rule

-- what was asked so far: the windows at the making met with every accepted cut, the book's rules at the making and every
-- accepted posting, and the same at each open mark, the newest first
pub record Ask : Type 0 where
  pub asked : Table
  pub standing : List Rule
  pub held : List Held

-- what is asked by a making
abbrev pub ask_made : List Rule → Table → Ask
ask_made rules T = record { asked = T; standing = rules; held = [] }

-- a call that asks for nothing new
abbrev pub ask_same : Ask → Ask
ask_same a = a

-- what is asked after a posting
abbrev pub ask_posted : Rule → Ask → Ask
ask_posted r a = record { asked = a.asked; standing = a.standing ++ (r ∷ []); held = a.held }

-- what is asked after window j was met with g, and maybe shared nothing
abbrev pub ask_cut : ℕ → List ℤ → Ask → Ask
ask_cut j g a = record { asked = slice_set a.asked j (meet (window a.asked j) g); standing = a.standing; held = a.held }

-- what is asked after mark m was handed out
abbrev pub ask_marked : ℕ → Ask → Ask
ask_marked m a = record { asked = a.asked; standing = a.standing; held = record { number = m; asked = a.asked; standing = a.standing } ∷ a.held }

-- the same with mark m and all later ones ended, where it is among these
abbrev pub ask_kept_at : ℕ → Ask → List Held → Ask
ask_kept_at m a [] = a
ask_kept_at m a (h ∷ hs) = cond (m == h.number) (record { asked = a.asked; standing = a.standing; held = hs }) (ask_kept_at m a hs)

-- what is asked after mark m was kept
abbrev pub ask_kept : ℕ → Ask → Ask
ask_kept m a = ask_kept_at m a a.held

-- what was asked at mark m, where it is among these
abbrev pub ask_back_at : ℕ → Ask → List Held → Ask
ask_back_at m a [] = a
ask_back_at m a (h ∷ hs) = cond (m == h.number) (record { asked = h.asked; standing = h.standing; held = hs }) (ask_back_at m a hs)

-- what is asked after mark m was taken back
abbrev pub ask_back : ℕ → Ask → Ask
ask_back m a = ask_back_at m a a.held

-- the states to which accepted calls lead, each with what was asked so far; a refused call changes neither
pub data Reached (sets : List ℤ → Type 0) (choice : List ℕ → ℕ) : Ask → State → Type 0 where
  made : (rules : List Rule) (T : Table) → length rules ≤ 64 → ((i : ℕ) → i < length rules → Lawful sets (slice_index_or rules i missing)) → Every sets T → Reached sets choice (ask_made rules T) (making rules T)
  posted : (r : Rule) (a : Ask) (s : State) → length s.rules < 64 → Lawful sets r → Reached sets choice a s → Reached sets choice (ask_posted r a) (posting r s)
  cut : (j : ℕ) (g : List ℤ) (a : Ask) (s : State) → j < length s.table → sets g → Reached sets choice a s → Reached sets choice (ask_cut j g a) (cutting j g s).after
  settled : (a : Ask) (s : State) → Reached sets choice a s → Reached sets choice a (settling choice s).after
  marked : (a : Ask) (s : State) → Reached sets choice a s → Reached sets choice (ask_marked s.handed a) (marking s)
  kept : (m : ℕ) (a : Ask) (s : State) → Reached sets choice a s → Reached sets choice (ask_kept m a) (keeping m s)
  back : (m : ℕ) (a : Ask) (s : State) → Reached sets choice a s → Reached sets choice (ask_back m a) (taking_back m s)

-- every placing that fits lies inside the plan's windows, and while the plan is impossible none fits
pub record HoldsAll (a : Ask) (s : State) : Type 0 where
  pub inside : (p : Placing) → Fits a.asked a.standing p → Places p s.table
  pub none : s.impossible ≡ true → (p : Placing) → Fits a.asked a.standing p → ⊥

-- U is the widest of the tables inside the asked windows that no standing rule narrows
pub record Widest (sets : List ℤ → Type 0) (a : Ask) (U : Table) : Type 0 where
  pub steady : Steady sets a.asked a.standing U
  pub widest : (V : Table) → Steady sets a.asked a.standing V → Inside V U

-- there is no such table
abbrev pub NoTable : (List ℤ → Type 0) → Ask → Type 0
NoTable sets a = (V : Table) → Steady sets a.asked a.standing V → ⊥

-- what a settling answers, of what was asked: Settled beside the widest table, and Impossible exactly if there is none
abbrev pub Answered : (List ℤ → Type 0) → Ask → Verdict → Table → Type 0
Answered sets a (Settled n) U = Widest sets a U × (NoTable sets a → ⊥)
Answered sets a (Impossible n i j) U = NoTable sets a
