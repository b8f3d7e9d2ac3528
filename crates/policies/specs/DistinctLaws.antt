-- Lists of numbers below 64, none twice: they stay so, and have at most 64 numbers.
use Rattle.std.specs.Prelude.{◌≡◌, ℕ, zero, suc, ◌<◌, ◌≤◌, min, Bool, true, false, cond, not, ◌&&◌, ◌||◌, List, [], ◌∷◌, ◌++◌, length, ◌==◌, nat_lt, refl}
use Rattle.std.proofs.Common.{sym, subst, ◌∙◌, ⊎_elim, arith}
use Rattle.std.proofs.lemmas.Bool.{eqb-true, eqb-false, eq-eqb, ne_eqb, lt-ltb, ltb-true, or_left, or_right, or_cases, or_parts, or_from, and_parts, and_from, cases_Bool, both_ways, cases_eq, cases_lt, cond_both, not-true, not_from_false}
use Rattle.policies.specs.Waiting.{holds, distinct, put, remove, Chooses, first, lowest}
use Rattle.policies.specs.WaitingLaws.{holds_end, remove_long}

-- the parts of a distinct list
pub parts : (x : ℕ) (w : List ℕ) → distinct (x ∷ w) ≡ true → (x < 64) × (holds x w ≡ false) × (distinct w ≡ true)
parts x w e =
    let (p, q) = and_parts (nat_lt x 64) (not (holds x w) && distinct w) e in
    let (r, s) = and_parts (not (holds x w)) (distinct w) q in
    (ltb-true x 64 p, not-true (holds x w) r, s)

pub join : (x : ℕ) (w : List ℕ) → x < 64 → holds x w ≡ false → distinct w ≡ true → distinct (x ∷ w) ≡ true
join x w l h d = and_from (nat_lt x 64) (not (holds x w) && distinct w) (lt-ltb x 64 l) (and_from (not (holds x w)) (distinct w) (not_from_false (holds x w) h) d)

distinct_end : (i : ℕ) (w : List ℕ) → i < 64 → holds i w ≡ false → distinct w ≡ true → distinct (w ++ (i ∷ [])) ≡ true
distinct_end i [] l h d = join i [] l refl refl
distinct_end i (x ∷ w) l h d =
    let (a, b, c) = parts x w d in
    let (p, q) = or_parts (i == x) (holds i w) h in
    join x (w ++ (i ∷ [])) a (holds_end x i w ∙ or_from (holds x w) (x == i) b (ne_eqb x i (λ e. eqb-false i x p (sym e)))) (distinct_end i w l q c)

pub distinct_put : (i : ℕ) (w : List ℕ) → distinct w ≡ true → distinct (put i w) ≡ true
distinct_put i w d =
    cond_both (holds i w) w (cond (nat_lt i 64) (w ++ (i ∷ [])) w) (λ u. distinct u ≡ true) (λ _. d) (λ h. cond_both (nat_lt i 64) (w ++ (i ∷ [])) w (λ u. distinct u ≡ true) (λ l. distinct_end i w (ltb-true i 64 l) h d) (λ _. d))

remove_old : (k i : ℕ) (w : List ℕ) → holds k (remove i w) ≡ true → holds k w ≡ true
remove_old k i [] h = h
remove_old k i (x ∷ w) h = go (i == x) (remove_old k i w) h
  where
    go : (b : Bool) → (holds k (remove i w) ≡ true → holds k w ≡ true) → holds k (cond b w (x ∷ remove i w)) ≡ true → (k == x || holds k w) ≡ true
    go true ih e = or_right (k == x) (holds k w) e
    go false ih e = ⊎_elim (λ p. or_left (k == x) (holds k w) p) (λ q. or_right (k == x) (holds k w) (ih q)) (or_cases (k == x) (holds k (remove i w)) e)

remove_gone : (i : ℕ) (w : List ℕ) → distinct w ≡ true → holds i (remove i w) ≡ false
remove_gone i [] d = refl
remove_gone i (x ∷ w) d = go (i == x) refl (remove_gone i w (parts x w d).2)
  where
    go : (b : Bool) → (i == x) ≡ b → holds i (remove i w) ≡ false → holds i (cond b w (x ∷ remove i w)) ≡ false
    go true e ih = rw (eqb-true i x e) (parts x w d).1
    go false e ih = or_from (i == x) (holds i (remove i w)) e ih

absent_remove : (k i : ℕ) (w : List ℕ) → holds k w ≡ false → holds k (remove i w) ≡ false
absent_remove k i w h = ⊎_elim (λ y. absurd (both_ways (holds k w) h (remove_old k i w y))) (λ n. n) (cases_Bool (holds k (remove i w)))

pub distinct_remove : (i : ℕ) (w : List ℕ) → distinct w ≡ true → distinct (remove i w) ≡ true
distinct_remove i [] d = refl
distinct_remove i (x ∷ w) d = go (i == x) (distinct_remove i w (parts x w d).2)
  where
    go : (b : Bool) → distinct (remove i w) ≡ true → distinct (cond b w (x ∷ remove i w)) ≡ true
    go true ih = (parts x w d).2
    go false ih = join x (remove i w) (parts x w d).0 (absent_remove x i w (parts x w d).1) ih

-- pigeons: distinct numbers below n are at most n
at_most : (n : ℕ) (w : List ℕ) → distinct w ≡ true → ((i : ℕ) → holds i w ≡ true → i < n) → length w ≤ n
at_most zero [] d h = omega arith
at_most zero (x ∷ w) d h = absurd (let l = h x (or_left (x == x) (holds x w) (eq-eqb x x refl)) in omega arith)
at_most (suc n) w d h = ⊎_elim (has (at_most n (remove n w) (distinct_remove n w d))) (lacks (at_most n w d)) (cases_Bool (holds n w))
  where
    has : (((i : ℕ) → holds i (remove n w) ≡ true → i < n) → length (remove n w) ≤ n) → holds n w ≡ true → length w ≤ suc n
    has ih e =
        let l : length (remove n w) ≤ n = ih (λ i k. ⊎_elim (λ (q : i ≡ n). absurd (both_ways (holds n (remove n w)) (remove_gone n w d) (rw q at k))) (λ (q : i ≡ n → ⊥). let b = h i (remove_old i n w k) in omega arith) (cases_eq i n)) in
        omega (arith, remove_long n w e)

    lacks : (((i : ℕ) → holds i w ≡ true → i < n) → length w ≤ n) → holds n w ≡ false → length w ≤ suc n
    lacks ih e =
        let l : length w ≤ n = ih (λ i k. ⊎_elim (λ (q : i ≡ n). absurd (both_ways (holds n w) e (rw q at k))) (λ (q : i ≡ n → ⊥). let b = h i k in omega arith) (cases_eq i n)) in
        omega arith

below_64 : (w : List ℕ) → distinct w ≡ true → (i : ℕ) → holds i w ≡ true → i < 64
below_64 [] d i h = absurd (both_ways false refl h)
below_64 (x ∷ w) d i h =
    ⊎_elim (λ p. let e = eqb-true i x p in let l = (parts x w d).0 in omega arith) (λ q. below_64 w (parts x w d).2 i q) (or_cases (i == x) (holds i w) h)

pub at_most_64 : (w : List ℕ) → distinct w ≡ true → length w ≤ 64
at_most_64 w d = at_most 64 w d (below_64 w d)

-- so an absent number below 64 finds room
pub room_for_one : (i : ℕ) (w : List ℕ) → distinct w ≡ true → i < 64 → holds i w ≡ false → length w < 64
room_for_one i w d l h = at_most_64 (i ∷ w) (join i w l h d)

lowest_held : (x : ℕ) (w : List ℕ) → holds (lowest (x ∷ w)) (x ∷ w) ≡ true
lowest_held x [] = or_left (x == x) false (eq-eqb x x refl)
lowest_held x (y ∷ w) = ⊎_elim here (there (lowest_held y w)) (cases_lt x (lowest (y ∷ w)))
  where
    here : x < lowest (y ∷ w) → holds (min x (lowest (y ∷ w))) (x ∷ (y ∷ w)) ≡ true
    here l = or_left (min x (lowest (y ∷ w)) == x) _ (eq-eqb _ x (omega arith))

    there : holds (lowest (y ∷ w)) (y ∷ w) ≡ true → lowest (y ∷ w) ≤ x → holds (min x (lowest (y ∷ w))) (x ∷ (y ∷ w)) ≡ true
    there h l =
        let e : min x (lowest (y ∷ w)) ≡ lowest (y ∷ w) = omega arith in
        subst (λ m. holds m (x ∷ (y ∷ w)) ≡ true) (sym e) (or_right (lowest (y ∷ w) == x) _ h)

-- both choices name one of the list's numbers
pub first_chooses : Chooses first
first_chooses x w = or_left (x == x) (holds x w) (eq-eqb x x refl)

pub lowest_chooses : Chooses lowest
lowest_chooses = lowest_held
