-- What a bounded list holds.
use Rattle.std.specs.Prelude.{ℕ, cond, List, [], ◌∷◌, ◌++◌, length, take, Some, None, Option, nat_lt, remove, slice_get}
use Rattle.bounded.specs.declared.list.BoundedList.{BoundedList}

-- the items of a list, in their order
abbrev pub items : {T : Type 0} {N : ℕ} → BoundedList T N → List T
items l = take l.len l.slots

-- what a push answers, and the items after it
pub record Pushed (T : Type 0) : Type 0 where
  pub answer : Option ℕ
  pub after : List T

-- one item more at the end, where there is room for it
abbrev pub pushed : {T : Type 0} → ℕ → List T → T → Pushed T
pushed n xs x = cond (nat_lt (length xs) n) (record { answer = Some (length xs); after = xs ++ (x ∷ []) }) (record { answer = None; after = xs })

-- what a removal answers, and the items after it
pub record Removed (T : Type 0) : Type 0 where
  pub answer : Option T
  pub after : List T

-- the item at place k taken out, and the later ones moved down; none, and the same items, where there is no such place
abbrev pub removed : {T : Type 0} → List T → ℕ → Removed T
removed xs k = record { answer = slice_get xs k; after = remove xs k }
