-- Rows that stand for windows.
use Rattle.std.proofs.Common.{◌≡◌, List, [], ◌∷◌, map, ℤ, refl, ap, ◌&&◌}
use Rattle.std.specs.List.{list_all}
use Rattle.rulebook.specs.Tables.{filled, all_filled}

pub all_are : {Row : Type 0} (stands : Row → List ℤ) (rows : List Row) → list_all (λ r. filled (stands r)) rows ≡ all_filled (map stands rows)
all_are stands [] = refl
all_are stands (r ∷ rows) = ap (λ t. filled (stands r) && t) (all_are stands rows)
