-- Places in waiting lists: what stands at them, and what taking it out leaves.
use Rattle.std.specs.Prelude.{◌≡◌, ℕ, zero, suc, ◌+◌, ◌<◌, ◌≤◌, true, false, cond, List, [], ◌∷◌, ◌++◌, length, take, drop, Some, ◌==◌, ◌≢◌, nat_lt, slice_index, refl}
use Rattle.std.proofs.Common.{sym, ap, subst, ◌∙◌, ⊎_elim, suc-le-suc, arith}
use Rattle.std.proofs.lemmas.Bool.{eqb-true, eq-eqb, ne_eqb, lt-ltb, or_left, or_right, or_cases, or_from, both_ways, cond-true, cond-false}
use Rattle.std.proofs.lemmas.List.{take_more, length-take-le}
use Rattle.policies.specs.Waiting.{holds, distinct, put, remove, first, lowest, Taken, taking}
use Rattle.policies.specs.WaitingLaws.{holds_end}
use Rattle.policies.specs.DistinctLaws.{parts, lowest_chooses}

-- removing a number by its place
pub remove_at : (k : ℕ) (w : List ℕ) → distinct w ≡ true → k < length w → remove (slice_index w k) w ≡ take k w ++ drop (suc k) w
remove_at k [] d l = absurd (omega arith)
remove_at zero (x ∷ w) d l = rw (eq-eqb x x refl) refl
remove_at (suc k) (x ∷ w) d l =
    let ih : remove (slice_index w k) w ≡ take k w ++ drop (suc k) w = remove_at k w (parts x w d).2 (omega arith) in
    rw (ne_eqb (slice_index w k) x (λ e. both_ways (holds x w) (parts x w d).1 (subst (λ (y : ℕ). holds y w ≡ true) e (holds_at k w (omega arith))))) (ap (λ (u : List ℕ). x ∷ u) ih)
  where
    holds_at : (k : ℕ) (w : List ℕ) → k < length w → holds (slice_index w k) w ≡ true
    holds_at k [] l = absurd (omega arith)
    holds_at zero (x ∷ w) l = or_left (x == x) (holds x w) (eq-eqb x x refl)
    holds_at (suc k) (x ∷ w) l = or_right (slice_index w k == x) (holds (slice_index w k) w) (holds_at k w (omega arith))

lowest_below : (x : ℕ) (w : List ℕ) (j : ℕ) → j < length (x ∷ w) → lowest (x ∷ w) ≤ slice_index (x ∷ w) j
lowest_below x [] zero l = omega arith
lowest_below x [] (suc j) l = absurd (omega arith)
lowest_below x (y ∷ w) zero l = omega arith
lowest_below x (y ∷ w) (suc j) l = let h = lowest_below y w j (omega arith) in omega arith

place : (m : ℕ) (w : List ℕ) → holds m w ≡ true → (j : ℕ) × (j < length w) × (slice_index w j ≡ m)
place m [] h = absurd (both_ways false refl h)
place m (x ∷ w) h = ⊎_elim (λ p. (0, omega arith, sym (eqb-true m x p))) (λ q. let (j, l, e) = place m w q in (suc j, suc-le-suc l, e)) (or_cases (m == x) (holds m w) h)

-- the number at k is the lowest if none is lower
is_lowest : (k x : ℕ) (w : List ℕ) → k < length (x ∷ w) → ((j : ℕ) → j < length (x ∷ w) → slice_index (x ∷ w) k ≤ slice_index (x ∷ w) j) → slice_index (x ∷ w) k ≡ lowest (x ∷ w)
is_lowest k x w l h =
    let (j, b, e) = place (lowest (x ∷ w)) (x ∷ w) (lowest_chooses x w) in
    let p = h j b in
    let q = lowest_below x w k l in
    omega arith

pub put_absent : (i : ℕ) (w : List ℕ) → i < 64 → holds i w ≡ false → put i w ≡ w ++ (i ∷ [])
put_absent i w l h = cond-false (holds i w) w (cond (nat_lt i 64) (w ++ (i ∷ [])) w) h ∙ cond-true (nat_lt i 64) (w ++ (i ∷ [])) w (lt-ltb i 64 l)

pub held_at : (i j n : ℕ) (xs : List ℕ) → j < n → n ≤ length xs → slice_index xs j ≡ i → holds i (take n xs) ≡ true
held_at i j zero xs l m e = absurd (omega arith)
held_at i j (suc n) [] l m e = absurd (omega arith)
held_at i zero (suc n) (x ∷ xs) l m e = or_left (i == x) (holds i (take n xs)) (eq-eqb i x (sym e))
held_at i (suc j) (suc n) (x ∷ xs) l m e = or_right (i == x) (holds i (take n xs)) (held_at i j n xs (omega arith) (omega arith) e)

pub held_more : (i j : ℕ) (xs : List ℕ) → j < length xs → holds i (take j xs) ≡ false → (slice_index xs j ≢ i) → holds i (take (j + 1) xs) ≡ false
held_more i j xs l h n = ap (holds i) (take_more xs j 0 l) ∙ holds_end i (slice_index xs j) (take j xs) ∙ or_from (holds i (take j xs)) (i == slice_index xs j) h (ne_eqb i (slice_index xs j) (λ e. n (sym e)))

-- what taking a number out answers and leaves, where it is the one that the choice names
pub taken_by : (choice : List ℕ → ℕ) (w : List ℕ) (r : ℕ) (v : List ℕ) → 0 < length w → r ≡ choice w → v ≡ remove r w → taking choice w ≡ record { answer = Some r; after = v }
taken_by choice [] r v l e q = absurd (omega arith)
taken_by choice (x ∷ w) r v l e q = ap {B = Taken} (λ i. record { answer = Some i; after = remove i (x ∷ w) }) (sym e) ∙ ap {B = Taken} (λ u. record { answer = Some r; after = u }) (sym q)

pub first_at : (w : List ℕ) → 0 < length w → slice_index w 0 ≡ first w
first_at [] l = absurd (omega arith)
first_at (x ∷ w) l = refl

pub lowest_at : (w : List ℕ) (k : ℕ) → k < length w → ((j : ℕ) → j < length w → slice_index w k ≤ slice_index w j) → slice_index w k ≡ lowest w
lowest_at [] k l h = absurd (omega arith)
lowest_at (x ∷ w) k l h = is_lowest k x w l h

-- the numbers that wait, as many as their count says
pub waiting_long : (len : ℕ) (rules : List ℕ) → length rules ≡ 64 → len ≤ 64 → length (take len rules) ≡ len
waiting_long len rules e l = length-take-le len rules (omega arith)
