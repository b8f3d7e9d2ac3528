-- A table copied into a store.
use Rattle.std.proofs.Common.{◌≡◌, ℕ, ◌+◌, ◌≤◌, List, length, take, arith}
use Rattle.std.proofs.lemmas.List.{length-append, length-take-le, length-drop}
use Rattle.plan.specs.Views.{stored}

pub stored_long : {Row : Type 0} (store xs : List Row) (at : ℕ) → at + length xs ≤ length store → length (stored store at xs) ≡ length store
stored_long store xs at l =
    simp (length-append, length-drop) (let e : length (take at store) ≡ at = length-take-le at store (omega arith) in omega arith)
