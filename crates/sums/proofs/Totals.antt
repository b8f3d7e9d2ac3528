-- Sums over terms.
use Rattle.std.proofs.Common.{◌≡◌, ℕ, zero, suc, ◌+◌, ◌<◌, ◌≤◌, Bool, true, false, cond, eqb, ◌⊎◌, List, [], ◌∷◌, length, get_or, take, drop, ℤ, pos, ◌+ℤ◌, ◌-ℤ◌, ◌≤ℤ◌, refl, ap, ◌∙◌, inl, inr, arith}
use Rattle.std.specs.List.{AllByRecursion as All}
use Rattle.std.proofs.lemmas.List.{drop_more, drop_all}
use Rattle.std.proofs.lemmas.Int.{ints}
use Rattle.std.proofs.lemmas.Bool.Decides.{nat_tests, eqb_tells}
use Rattle.windows.specs.SetLaws.{never}
use Rattle.sums.specs.Sums.{in_terms, terms_reach, weight_at, total, total_but}
use Rattle.sums.specs.Questions.{Apart}
use Rattle.sums.specs.declared.posted.Term.{Term}

abbrev pub no_term : Term
no_term = record { window = 0; weight = pos 0 }

-- ---- the windows of the terms
-- the first term's window is in no other, and the others are apart
apart_head : (t : Term) (ts : List Term) → Apart (t ∷ ts) → in_terms ts t.window ≡ false
apart_head t ts a = grind arith

apart_tail : (t : Term) (ts : List Term) → Apart (t ∷ ts) → Apart ts
apart_tail t ts a = grind arith

pub covers : (ts : List Term) (j : ℕ) → in_terms ts j ≡ true → j < terms_reach ts
covers [] j h = never h
covers (t ∷ ts) j h = let ih = covers ts j in grind (arith, nat_tests)

in_head : (t : Term) (ts : List Term) → in_terms (t ∷ ts) t.window ≡ true
in_head t ts = grind (arith, nat_tests)

in_tail : (t : Term) (ts : List Term) (j : ℕ) → in_terms ts j ≡ true → in_terms (t ∷ ts) j ≡ true
in_tail t ts j h = grind (arith, nat_tests)

-- what holds of each term whose window is read
pub each_read : (P : Term → Type 0) (ts : List Term) → ((t : Term) → in_terms ts t.window ≡ true → P t) → All P ts
each_read P [] h = tt
each_read P (t ∷ ts) h = (h t (in_head t ts), each_read P ts (λ u q. h u (in_tail t ts u.window q)))

pub in_at : (ts : List Term) (i : ℕ) → i < length ts → in_terms ts (get_or ts i no_term).window ≡ true
in_at [] i h = absurd (omega arith)
in_at (t ∷ ts) zero h = in_head t ts
in_at (t ∷ ts) (suc i) h = in_tail t ts (get_or ts i no_term).window (in_at ts i (omega arith))

-- the number of the term of window j
pub index_of : (ts : List Term) (j : ℕ) → in_terms ts j ≡ true → (i : ℕ) × (i < length ts) × ((get_or ts i no_term).window ≡ j)
index_of [] j h = never h
index_of (t ∷ ts) j h = go (eqb_tells t.window j) (index_of ts j)
  where
    go : ((eqb t.window j ≡ true) × (t.window ≡ j)) ⊎ ((eqb t.window j ≡ false) × (t.window ≡ j → ⊥)) → (in_terms ts j ≡ true → (i : ℕ) × (i < length ts) × ((get_or ts i no_term).window ≡ j)) → (i : ℕ) × (i < length (t ∷ ts)) × ((get_or (t ∷ ts) i no_term).window ≡ j)
    go (inl (e, q)) ih = (0, omega arith, q)
    go (inr (e, q)) ih = let r : in_terms ts j ≡ true = grind arith in let k = ih r in (suc k.0, omega (arith, k.1), k.2)

apart_at : (t : Term) (ts : List Term) (i : ℕ) → i < length ts → in_terms ts t.window ≡ false → eqb t.window (get_or ts i no_term).window ≡ false
apart_at t ts i h a = let k = in_at ts i h in grind (arith, nat_tests)

-- a term's window stands in no earlier term
pub fresh : (ts : List Term) (i : ℕ) → i < length ts → Apart ts → in_terms (take i ts) (get_or ts i no_term).window ≡ false
fresh [] i h a = absurd (omega arith)
fresh (t ∷ ts) zero h a = refl
fresh (t ∷ ts) (suc i) h a = let ih = fresh ts i (omega arith) (apart_tail t ts a) in let o = apart_at t ts i (omega arith) (apart_head t ts a) in grind (arith, nat_tests)

pub weight_is : (ts : List Term) (i : ℕ) → i < length ts → Apart ts → weight_at ts (get_or ts i no_term).window ≡ (get_or ts i no_term).weight
weight_is [] i h a = absurd (omega arith)
weight_is (t ∷ ts) zero h a = let o : eqb t.window t.window ≡ true = grind (arith, nat_tests) in rw o refl
weight_is (t ∷ ts) (suc i) h a = let o = apart_at t ts i (omega arith) (apart_head t ts a) in rw o (weight_is ts i (omega arith) (apart_tail t ts a))

-- ---- the sum without a window's term
pub but_mono : (f g : Term → ℤ) (ts : List Term) (j : ℕ) → All (λ t. f t ≤ℤ g t) ts → total_but f ts j ≤ℤ total_but g ts j
but_mono f g [] j a = omega (arith, ints)
but_mono f g (t ∷ ts) j a = go (eqb t.window j) a.0 (but_mono f g ts j a.1)
  where
    go : (b : Bool) → f t ≤ℤ g t → total_but f ts j ≤ℤ total_but g ts j → cond b (total_but f ts j) (f t +ℤ total_but f ts j) ≤ℤ cond b (total_but g ts j) (g t +ℤ total_but g ts j)
    go true h ih = ih
    go false h ih = omega (arith, ints)

pub but_same : (f g : Term → ℤ) (ts : List Term) (j : ℕ) → All (λ t. f t ≡ g t) ts → total_but f ts j ≡ total_but g ts j
but_same f g [] j a = refl
but_same f g (t ∷ ts) j a = let h = a.0 in let ih = but_same f g ts j a.1 in cc

but_none : (f : Term → ℤ) (ts : List Term) (j : ℕ) → in_terms ts j ≡ false → total_but f ts j ≡ total f ts
but_none f [] j h = refl
but_none f (t ∷ ts) j h = let ih = but_none f ts j in grind (arith, nat_tests)

pub but_rest : (f : Term → ℤ) (ts : List Term) (i : ℕ) → i < length ts → Apart ts → total_but f ts (get_or ts i no_term).window ≡ total f ts -ℤ f (get_or ts i no_term)
but_rest f [] i h a = absurd (omega arith)
but_rest f (t ∷ ts) zero h a =
    let o : eqb t.window t.window ≡ true = grind (arith, nat_tests) in
    rw o (but_none f ts t.window (apart_head t ts a) ∙ omega (arith, ints))
but_rest f (t ∷ ts) (suc i) h a =
    let o = apart_at t ts i (omega arith) (apart_head t ts a) in
    let ih = but_rest f ts i (omega arith) (apart_tail t ts a) in
    rw o (omega (arith, ints))

-- ---- a running sum: what is left gives the rest
pub total_more : (f : Term → ℤ) (ts : List Term) (i : ℕ) (a x s : ℤ) → i < length ts → a +ℤ total f (drop i ts) ≡ s → x ≡ f (get_or ts i no_term) → (a +ℤ x) +ℤ total f (drop (i + 1) ts) ≡ s
total_more f ts i a x s h e q = let d = ap (total f) (drop_more ts i no_term h) in omega (arith, ints)

pub total_end : (f : Term → ℤ) (ts : List Term) (i : ℕ) (a s : ℤ) → length ts ≤ i → a +ℤ total f (drop i ts) ≡ s → a ≡ s
total_end f ts i a s h e = let d = ap (total f) (drop_all i ts h) in omega (arith, ints)
