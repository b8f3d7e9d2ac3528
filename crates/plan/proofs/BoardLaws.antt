-- What a board's check tells.
use Rattle.std.proofs.Common.{◌≡◌, ℕ, zero, suc, ◌*◌, ◌<◌, ◌≤◌, Bool, true, false, cond, ◌&&◌, eqb, leb, List, [], ◌∷◌, map, length, ℤ, Some, None, sym, refl, ap, subst, arith}
use Rattle.std.proofs.lemmas.List.{length-map}
use Rattle.std.proofs.lemmas.Bool.{and_parts, and_from, leb-true, eqb-true, both_ways}
use Rattle.rulebook.specs.Tables.{Table, window, Every, filled, all_filled}
use Rattle.plan.specs.Refusals.{is_table, board_refusal}
use Rattle.plan.specs.declared.answer.PlanRefusal.TheVariants.{Windows, Store, Length}

filled_some : (s : List ℤ) → (s ≡ [] → ⊥) → filled s ≡ true
filled_some [] h = absurd (h refl)
filled_some (x ∷ s) h = refl

-- rows that pass are windows of the sets
pub all_kinds : {Row : Type 0} (stands : Row → List ℤ) (sets : List ℤ → Type 0) (rows : List Row) → ((row : Row) → (stands row ≡ [] → ⊥) → sets (stands row)) → all_filled (map stands rows) ≡ true → Every sets (map stands rows)
all_kinds stands sets [] windows e j l = absurd (omega arith)
all_kinds stands sets (row ∷ rows) windows e zero l =
    windows row (λ n. both_ways (filled (stands row)) (ap filled n) (and_parts (filled (stands row)) (all_filled (map stands rows)) e).0)
all_kinds stands sets (row ∷ rows) windows e (suc j) l =
    all_kinds stands sets rows windows (and_parts (filled (stands row)) (all_filled (map stands rows)) e).1 j (omega arith)

-- what a board that is not refused is
pub record Fine (T : Table) (long : ℕ) (wanted : Bool) : Type 0 where
  pub some : 1 ≤ length T
  pub few : length T ≤ 64
  pub windows : all_filled T ≡ true
  pub store : 16 * length T ≤ long
  pub same : wanted ≡ true

pub table_few : (T : Table) → is_table T ≡ true → (1 ≤ length T) × (length T ≤ 64) × (all_filled T ≡ true)
table_few T e =
    let (p, q) = and_parts (leb 1 (length T)) (leb (length T) 64 && all_filled T) e in
    let (r, s) = and_parts (leb (length T) 64) (all_filled T) q in
    (leb-true 1 (length T) p, leb-true (length T) 64 r, s)

pub fine : (T : Table) (long : ℕ) (wanted : Bool) → board_refusal T long wanted ≡ None → Fine T long wanted
fine T long wanted = go (is_table T) refl (leb (16 * length T) long) refl wanted
  where
    go : (a : Bool) → is_table T ≡ a → (b : Bool) → leb (16 * length T) long ≡ b → (c : Bool) → cond a (cond b (cond c None (Some Length)) (Some Store)) (Some Windows) ≡ None → Fine T long c
    go true p true q true e = let t = table_few T p in record { some = t.0; few = t.1; windows = t.2; store = leb-true (16 * length T) long q; same = refl }
    go true p true q false e = cc
    go true p false q c e = cc
    go false p b q c e = cc

-- the same, of the rows
pub fine_rows : {Row : Type 0} (stands : Row → List ℤ) (rows : List Row) (long n : ℕ) → None ≡ board_refusal (map stands rows) long (eqb (length (map stands rows)) n) → (length rows ≡ n) × (length rows ≤ 64) × (16 * length rows ≤ long)
fine_rows stands rows long n e =
    let f = fine (map stands rows) long (eqb (length (map stands rows)) n) (sym e) in
    (simp length-map at (eqb-true (length (map stands rows)) n f.same), simp length-map at f.few, simp length-map at f.store)

-- no window of a table that passed is empty
pub filled_at : (T : Table) (j : ℕ) → all_filled T ≡ true → j < length T → window T j ≡ [] → ⊥
filled_at [] j e l n = omega arith
filled_at (s ∷ T) zero e l n = both_ways (filled s) (ap filled n) (and_parts (filled s) (all_filled T) e).0
filled_at (s ∷ T) (suc j) e l n = filled_at T j (and_parts (filled s) (all_filled T) e).1 (omega arith) n

-- a table whose windows are all sets that are never empty passes
pub all_filled_from : (sets : List ℤ → Type 0) (T : Table) → (sets [] → ⊥) → Every sets T → all_filled T ≡ true
all_filled_from sets [] some k = refl
all_filled_from sets (s ∷ T) some k = and_from (filled s) (all_filled T) (filled_some s (λ n. some (subst sets n (k 0 (omega arith))))) (all_filled_from sets T some (λ j l. k (suc j) (omega arith)))
