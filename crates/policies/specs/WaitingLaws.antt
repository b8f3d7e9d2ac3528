-- Waiting lists: what put, puts and remove leave in them.
use Rattle.std.specs.Prelude.{◌≡◌, ℕ, zero, suc, ◌+◌, ◌<◌, ◌≤◌, Bool, true, false, cond, ◌||◌, List, [], ◌∷◌, ◌++◌, length, ◌==◌, ◌≢◌, nat_lt, refl}
use Rattle.std.proofs.Common.{sym, ap, ◌∙◌, ⊎_elim, add-one, arith, length-append}
use Rattle.std.proofs.lemmas.Bool.{eqb-true, eq-eqb, lt-ltb, or_left, or_right, or_cases, cases_Bool, both_ways, cases_eq, cond_both, cond-true, cond-false}
use Rattle.policies.specs.Waiting.{holds, put, remove, puts}

pub holds_end : (i k : ℕ) (w : List ℕ) → holds i (w ++ (k ∷ [])) ≡ (holds i w || i == k)
holds_end i k [] = go (i == k)
  where
    go : (b : Bool) → (b || false) ≡ b
    go true = refl
    go false = refl
holds_end i k (x ∷ w) = go (i == x) (holds_end i k w)
  where
    go : (b : Bool) → holds i (w ++ (k ∷ [])) ≡ (holds i w || i == k) → (b || holds i (w ++ (k ∷ []))) ≡ ((b || holds i w) || i == k)
    go true e = refl
    go false e = e

pub put_old : (i k : ℕ) (w : List ℕ) → holds i w ≡ true → holds i (put k w) ≡ true
put_old i k w h =
    cond_both (holds k w) w (cond (nat_lt k 64) (w ++ (k ∷ [])) w) (λ u. holds i u ≡ true) (λ _. h) (λ _. cond_both (nat_lt k 64) (w ++ (k ∷ [])) w (λ u. holds i u ≡ true) (λ _. holds_end i k w ∙ or_left (holds i w) (i == k) h) (λ _. h))

pub put_self : (i : ℕ) (w : List ℕ) → i < 64 → holds i (put i w) ≡ true
put_self i w l =
    cond_both (holds i w) w (cond (nat_lt i 64) (w ++ (i ∷ [])) w) (λ u. holds i u ≡ true) (λ e. e) (λ _. rw (lt-ltb i 64 l) (holds_end i i w ∙ or_right (holds i w) (i == i) (eq-eqb i i refl)))

pub put_long : (i : ℕ) (w : List ℕ) → length (put i w) ≤ suc (length w)
put_long i w =
    cond_both (holds i w) w (cond (nat_lt i 64) (w ++ (i ∷ [])) w) (λ u. length u ≤ suc (length w)) (λ _. omega arith) (λ _. cond_both (nat_lt i 64) (w ++ (i ∷ [])) w (λ u. length u ≤ suc (length w)) (λ _. simp length-append (omega arith)) (λ _. omega arith))

pub puts_old : (f : ℕ → Bool) (n i : ℕ) (w : List ℕ) → holds i w ≡ true → holds i (puts f n w) ≡ true
puts_old f zero i w h = h
puts_old f (suc n) i w h =
    let k = puts_old f n i w h in
    cond_both (f n) (put n (puts f n w)) (puts f n w) (λ u. holds i u ≡ true) (λ _. put_old i n (puts f n w) k) (λ _. k)

pub puts_new : (f : ℕ → Bool) (n i : ℕ) (w : List ℕ) → n ≤ 64 → i < n → f i ≡ true → holds i (puts f n w) ≡ true
puts_new f zero i w m l e = absurd (omega arith)
puts_new f (suc n) i w m l e = ⊎_elim last (before (λ b. puts_new f n i w (omega arith) b e)) (cases_eq i n)
  where
    last : i ≡ n → holds i (cond (f n) (put n (puts f n w)) (puts f n w)) ≡ true
    last q = rw q (rw (rw q at e) (put_self n (puts f n w) m))

    before : (i < n → holds i (puts f n w) ≡ true) → (i ≢ n) → holds i (cond (f n) (put n (puts f n w)) (puts f n w)) ≡ true
    before ih q =
        let k : holds i (puts f n w) ≡ true = ih (omega arith) in
        cond_both (f n) (put n (puts f n w)) (puts f n w) (λ u. holds i u ≡ true) (λ _. put_old i n (puts f n w) k) (λ _. k)

pub puts_long : (f : ℕ → Bool) (n : ℕ) (w : List ℕ) → length (puts f n w) ≤ length w + n
puts_long f zero w = omega arith
puts_long f (suc n) w =
    let h = puts_long f n w in
    cond_both (f n) (put n (puts f n w)) (puts f n w) (λ u. length u ≤ length w + suc n) (λ _. omega (arith, put_long n (puts f n w))) (λ _. omega arith)

pub remove_long : (i : ℕ) (w : List ℕ) → holds i w ≡ true → suc (length (remove i w)) ≡ length w
remove_long i [] h = absurd (both_ways false refl h)
remove_long i (x ∷ w) h = go (i == x) (remove_long i w) h
  where
    go : (b : Bool) → (holds i w ≡ true → suc (length (remove i w)) ≡ length w) → (b || holds i w) ≡ true → suc (length (cond b w (x ∷ remove i w))) ≡ suc (length w)
    go true ih e = refl
    go false ih e = ap suc (ih e)

pub remove_other : (k i : ℕ) (w : List ℕ) → (k ≢ i) → holds k w ≡ true → holds k (remove i w) ≡ true
remove_other k i [] n h = h
remove_other k i (x ∷ w) n h = go (i == x) refl (remove_other k i w n)
  where
    go : (b : Bool) → (i == x) ≡ b → (holds k w ≡ true → holds k (remove i w) ≡ true) → holds k (cond b w (x ∷ remove i w)) ≡ true
    go true e ih = ⊎_elim (λ p. absurd (n (eqb-true k x p ∙ sym (eqb-true i x e)))) (λ q. q) (or_cases (k == x) (holds k w) h)
    go false e ih = ⊎_elim (λ p. or_left (k == x) (holds k (remove i w)) p) (λ q. or_right (k == x) (holds k (remove i w)) (ih q)) (or_cases (k == x) (holds k w) h)

-- what does not wait in the longer list does not wait in the shorter one, and was not put
pub puts_absent : (f : ℕ → Bool) (n i : ℕ) (w : List ℕ) → n ≤ 64 → i < n → holds i (puts f n w) ≡ false → (f i ≡ false) × (holds i w ≡ false)
puts_absent f n i w m l e =
    (⊎_elim (λ h. absurd (both_ways (holds i (puts f n w)) e (puts_new f n i w m l h))) (λ h. h) (cases_Bool (f i)), ⊎_elim (λ h. absurd (both_ways (holds i (puts f n w)) e (puts_old f n i w h))) (λ h. h) (cases_Bool (holds i w)))

pub puts_none : (f : ℕ → Bool) (n : ℕ) (w : List ℕ) → ((i : ℕ) → f i ≡ false) → puts f n w ≡ w
puts_none f zero w h = refl
puts_none f (suc n) w h = rw (h n) (puts_none f n w h)

-- one turn of a loop that puts: w before it, and v after it
pub puts_yes : (f : ℕ → Bool) (i : ℕ) (u w v : List ℕ) → w ≡ puts f i u → f i ≡ true → v ≡ put i w → v ≡ puts f (i + 1) u
puts_yes f i u w v e t h = h ∙ ap (put i) e ∙ sym (ap (λ (n : ℕ). puts f n u) (add-one i) ∙ cond-true (f i) (put i (puts f i u)) (puts f i u) t)

pub puts_no : (f : ℕ → Bool) (i : ℕ) (u w v : List ℕ) → w ≡ puts f i u → f i ≡ false → v ≡ w → v ≡ puts f (i + 1) u
puts_no f i u w v e t h = h ∙ e ∙ sym (ap (λ (n : ℕ). puts f n u) (add-one i) ∙ cond-false (f i) (put i (puts f i u)) (puts f i u) t)

pub puts_like : (f g : ℕ → Bool) (n : ℕ) (w : List ℕ) → ((i : ℕ) → f i ≡ g i) → puts f n w ≡ puts g n w
puts_like f g zero w h = refl
puts_like f g (suc n) w h = let e = h n in let p = puts_like f g n w h in cc
