-- What standing rules ask of tables and of placings.
use Rattle.std.specs.Prelude.{◌≡◌, ℕ, ◌<◌, true, List, length, get_or, ℤ, slice_index_or}
use Rattle.rulebook.specs.Tables.{Table, Placing, Inside, Places, Every}
use Rattle.rulebook.specs.Rules.{Rule, narrowed, missing}

-- a table of windows inside the asked ones that no standing rule narrows
pub record Steady (sets : List ℤ → Type 0) (asked : Table) (standing : List Rule) (U : Table) : Type 0 where
  pub kinds : Every sets U
  pub inside : Inside U asked
  pub calm : (i : ℕ) → i < length standing → (get_or standing i missing).narrow U ≡ narrowed U

-- a placing inside the asked windows that every standing rule allows
pub record Fits (asked : Table) (standing : List Rule) (p : Placing) : Type 0 where
  pub inside : Places p asked
  pub allowed : (i : ℕ) → i < length standing → (get_or standing i missing).allows p ≡ true

-- each rule of the one list is a rule of the other
abbrev pub Among : List Rule → List Rule → Type 0
Among rs qs = (i : ℕ) → i < length rs → (k : ℕ) × (k < length qs) × (slice_index_or qs k missing ≡ slice_index_or rs i missing)

-- the two lists have the same rules, in any order
pub record SameRules (rs qs : List Rule) : Type 0 where
  pub there : Among rs qs
  pub back : Among qs rs
