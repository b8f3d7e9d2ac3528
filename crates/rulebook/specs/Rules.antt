-- What a rule is, and the four laws of every rulebook.
use Rattle.std.specs.Prelude.{◌≡◌, ℕ, Bool, true, false, List, length, ℤ}
use Rattle.rulebook.specs.Tables.{Table, Placing, window, Inside, Places, Every}

-- a narrowing gives a table, or names the lowest window that lost all its numbers
pub data Outcome : Type 0 where
  narrowed : Table → Outcome
  emptied : ℕ → Outcome

-- a rule: the windows that it reads, the placings that it allows, and what it does to a table
pub record Rule : Type 0 where
  pub reads : ℕ → Bool
  pub allows : Placing → Bool
  pub narrow : Table → Outcome

-- the rule that stands for a number past a book's end: it narrows nothing
abbrev pub missing : Rule
missing = record { reads = λ _. false; allows = λ _. true; narrow = narrowed }

-- the rule allows a placing exactly if this holds of it
pub record Means (r : Rule) (holds : Placing → Type 0) : Type 0 where
  pub only : (p : Placing) → r.allows p ≡ true → holds p
  pub all : (p : Placing) → holds p → r.allows p ≡ true

-- the two tables have the same windows where the rule reads
abbrev pub Agree : (ℕ → Bool) → Table → Table → Type 0
Agree reads T U = (j : ℕ) → reads j ≡ true → window T j ≡ window U j

-- two outcomes alike in the windows that the rule reads
abbrev pub Alike : (ℕ → Bool) → Outcome → Outcome → Type 0
Alike reads (narrowed T) (narrowed U) = Agree reads T U
Alike reads (narrowed T) (emptied k) = ⊥
Alike reads (emptied k) (narrowed U) = ⊥
Alike reads (emptied k) (emptied l) = k ≡ l

-- The four laws, on tables whose windows are of the given sets.
pub record Lawful (sets : List ℤ → Type 0) (r : Rule) : Type 0 where
  -- contracting: narrowed windows lie inside the old ones, and only windows that the rule reads change
  pub shrinks : (T U : Table) → Every sets T → r.narrow T ≡ narrowed U → Every sets U × Inside U T
  pub unread : (T U : Table) (j : ℕ) → Every sets T → r.narrow T ≡ narrowed U → r.reads j ≡ false → window U j ≡ window T j
  -- local: in tables of one length, what the rule does depends only on the windows that it reads
  pub local : (T U : Table) → Every sets T → Every sets U → length T ≡ length U → Agree r.reads T U → Alike r.reads (r.narrow T) (r.narrow U)
  -- monotone: if T lies inside U and isn't emptied, then U isn't emptied, and T narrowed lies inside U narrowed
  pub monotone : (T U T' : Table) → Every sets T → Every sets U → Inside T U → r.narrow T ≡ narrowed T' → (U' : Table) × (r.narrow U ≡ narrowed U') × Inside T' U'
  -- solution-keeping: an allowed placing inside a table stays inside it, and the table isn't emptied
  pub keeps : (T : Table) (p : Placing) → Every sets T → Places p T → r.allows p ≡ true → (U : Table) × (r.narrow T ≡ narrowed U) × Places p U
