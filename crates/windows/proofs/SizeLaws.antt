-- The sum of all sizes, one row at a time.
use Rattle.std.proofs.Common.{◌≡◌, ℕ, ◌+◌, ◌<◌, ◌≤◌, List, map, length, get_or, drop, ℤ, ap, arith}
use Rattle.std.proofs.lemmas.List.{drop_more, drop_all}
use Rattle.windows.specs.Sets.{sizes}

-- what is left gives the rest
pub sizes_more : {Row : Type 0} (stands : Row → List ℤ) (rows : List Row) (i : ℕ) (row : Row) (sum more total : ℕ) → i < length rows → row ≡ get_or rows i row → sum + sizes (map stands (drop i rows)) ≡ total → more ≡ sum + length (stands row) → more + sizes (map stands (drop (i + 1) rows)) ≡ total
sizes_more stands rows i row sum more total h e q m =
    let d = ap (λ l. sizes (map stands l)) (drop_more rows i row h) in
    let f = ap (λ r. length (stands r)) e in
    omega arith

pub sizes_all : {Row : Type 0} (stands : Row → List ℤ) (rows : List Row) (i : ℕ) (sum total : ℕ) → length rows ≤ i → sum + sizes (map stands (drop i rows)) ≡ total → sum ≡ total
sizes_all stands rows i sum total h q = let d = ap (λ l. sizes (map stands l)) (drop_all i rows h) in omega arith
