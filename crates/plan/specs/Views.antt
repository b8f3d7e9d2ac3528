-- The state of a plan's parts: rules, waiting list, status, rows and store.
use Rattle.std.specs.Prelude.{◌≡◌, ℕ, zero, suc, ◌+◌, ◌*◌, false, cond, List, [], ◌∷◌, ◌++◌, map, length, get_or, take, drop, ℤ, Some, None, Ok, Err, Option, Result, ◌==◌}
use Rattle.bounded.specs.Lists.{items}
use Rattle.rulebook.specs.Rules.{Rule}
use Rattle.plan.specs.States.{State, Copy, state}
use Rattle.plan.specs.declared.status.Slot.{Slot}
use Rattle.plan.specs.declared.status.Status.{Status}

-- the slot of no mark
abbrev pub no_slot : Slot
no_slot = record { number = 0; count = 0; impossible = false }

-- the newest of the first k slots that has the number m
abbrev pub found : List Slot → ℕ → ℕ → Option ℕ
found slots m zero = None
found slots m (suc k) = cond (m == (get_or slots k no_slot).number) (Some k) (found slots m k)

-- what open mark k has copied; its table stands in the store from k * n on
abbrev pub copy_at : {Row : Type 0} → (Row → List ℤ) → List Slot → ℕ → List Row → ℕ → Copy
copy_at stands slots n store k = record { number = (get_or slots k no_slot).number; count = (get_or slots k no_slot).count; impossible = (get_or slots k no_slot).impossible; table = map stands (take n (drop (k * n) store)) }

-- the first k open marks, the newest first
abbrev pub copies : {Row : Type 0} → (Row → List ℤ) → List Slot → ℕ → List Row → ℕ → List Copy
copies stands slots n store zero = []
copies stands slots n store (suc k) = copy_at stands slots n store k ∷ copies stands slots n store k

-- the state of these parts
abbrev pub view : {Row : Type 0} → (Row → List ℤ) → List Rule → List ℕ → Status → List Row → List Row → State
view stands rules w status rows store = state rules w status.impossible (map stands rows) status.windows (copies stands (items status.marks) status.windows store (length (items status.marks))) status.handed

-- a store with a table written over it from `from` on
abbrev pub stored : {Row : Type 0} → List Row → ℕ → List Row → List Row
stored store from rows = take from store ++ (rows ++ drop (from + length rows) store)

-- the store after a marking that gave this answer: a new copy stands at `from`
abbrev pub store_after : {A E Row : Type 0} → Result A E → List Row → ℕ → List Row → List Row
store_after (Ok m) store from rows = stored store from rows
store_after (Err f) store from rows = store

-- a refused call leaves the very rows
abbrev pub Untouched : {A E Row : Type 0} → Result A E → List Row → List Row → Type 0
Untouched (Ok x) old new = Unit {0}
Untouched (Err f) old new = new ≡ old
