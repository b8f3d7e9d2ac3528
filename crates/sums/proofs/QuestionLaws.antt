-- The questions that are asked of each term, and what they tell.
use Rattle.std.proofs.Common.{◌≡◌, ℕ, ◌+◌, ◌<◌, ◌≤◌, min, Bool, true, false, cond, not, ◌&&◌, ◌||◌, ◌==◌, List, [], ◌∷◌, length, get_or, drop, ℤ, pos, negsuc, Some, None, Option, sym, refl, ap, ◌∙◌, nat_lt, arith}
use Rattle.std.specs.List.{list_all, list_any}
use Rattle.std.proofs.lemmas.List.{at_drop_more, at_drop_all, length-take}
use Rattle.std.proofs.lemmas.Bool.Decides.{nat_tests}
use Rattle.std.proofs.lemmas.Int.{ints}
use Rattle.windows.specs.Sets.{eq_z}
use Rattle.windows.specs.SetLaws.{tests, never, between_is}
use Rattle.rulebook.specs.declared.answer.BookRefusal.{BookRefusal}
use Rattle.sums.specs.Sums.{in_terms}
use Rattle.sums.specs.Questions.{terms_fit, windows_below, apart, weighs, weights_fit, bound_fits, given, sum_asks}
use Rattle.sums.specs.Sizes.{Weighs, Small}
use Rattle.sums.specs.declared.posted.Term.{Term}
use Rattle.sums.specs.declared.posted.PostedSum.{PostedSum}
use Rattle.sums.proofs.Totals.{no_term}

-- ---- a loop whose answer F is the same at the terms that are left
module _ (F : List Term → Bool) (ts : List Term) (i : ℕ) (same : F (drop i ts) ≡ F ts) where
  pub stopped : (r : Bool) → i < length ts → F (get_or ts i no_term ∷ drop (i + 1) ts) ≡ r → r ≡ F ts
  stopped r h q = sym (sym same ∙ at_drop_more F ts i no_term h ∙ q)

  pub passed : i < length ts → F (get_or ts i no_term ∷ drop (i + 1) ts) ≡ F (drop (i + 1) ts) → F (drop (i + 1) ts) ≡ F ts
  passed h q = stopped (F (drop (i + 1) ts)) h q

  pub ended : length ts ≤ i → F [] ≡ F ts
  ended h = sym (at_drop_all F ts i h) ∙ same

-- ---- the questions as chains ask them
pub in_any : (ts : List Term) (j : ℕ) → list_any (λ t. t.window == j) ts ≡ in_terms ts j
in_any [] j = refl
in_any (t ∷ ts) j = ap (λ b. t.window == j || b) (in_any ts j)

pub below_all : (n : ℕ) (ts : List Term) → list_all (λ t. nat_lt t.window n) ts ≡ windows_below n ts
below_all n [] = refl
below_all n (t ∷ ts) = ap (λ b. nat_lt t.window n && b) (below_all n ts)

pub fit_all : (ts : List Term) → list_all (λ t. weighs t.weight) ts ≡ weights_fit ts
fit_all [] = refl
fit_all (t ∷ ts) = ap (λ b. weighs t.weight && b) (fit_all ts)

-- ---- a weight
pub weighs_is : (w : ℤ) → weighs w ≡ true → Weighs w
unfolding eq_z
weighs_is w h = (grind (arith, ints, tests), grind (arith, ints, tests), λ e. never (rw e at h))

pub bound_is : (b : ℤ) → bound_fits b ≡ true → Small 1000000000 b
bound_is b h = between_is (negsuc 999999999) (pos 1000000000) b h

-- ---- what an accepted sum keeps
asked : (b : Bool) (f : BookRefusal) (o : Option BookRefusal) → cond (not b) (Some f) o ≡ None → (b ≡ true) × (o ≡ None)
asked true f o e = (refl, e)
asked false f o e = let z : ◌≡◌ {A = ℕ} 0 1 = cc in absurd (omega arith)

pub record Accepted (p : PostedSum) (n : ℕ) : Type 0 where
  pub terms : terms_fit p.count ≡ true
  pub windows : windows_below (min n 64) (given p) ≡ true
  pub different : apart (given p) ≡ true
  pub weights : weights_fit (given p) ≡ true
  pub bounded : bound_fits p.bound ≡ true

pub accepted : (p : PostedSum) (n : ℕ) → sum_asks p n ≡ None → Accepted p n
accepted p n e =
    let a = asked (terms_fit p.count) _ _ e in
    let b = asked (windows_below (min n 64) (given p)) _ _ a.1 in
    let c = asked (apart (given p)) _ _ b.1 in
    let d = asked (weights_fit (given p)) _ _ c.1 in
    let f = asked (bound_fits p.bound) _ _ d.1 in
    record { terms = a.0; windows = b.0; different = c.0; weights = d.0; bounded = f.0 }

pub below_more : (m n : ℕ) (ts : List Term) → m ≤ n → windows_below m ts ≡ true → windows_below n ts ≡ true
below_more m n [] h e = refl
below_more m n (t ∷ ts) h e = let ih = below_more m n ts h in grind (arith, nat_tests)

-- an accepted sum reads only windows below n
pub below_read : (n : ℕ) (ts : List Term) (j : ℕ) → windows_below n ts ≡ true → in_terms ts j ≡ true → j < n
below_read n [] j e h = never h
below_read n (t ∷ ts) j e h = let ih = below_read n ts j in grind (arith, nat_tests)

pub some_given : (p : PostedSum) → length p.terms ≡ 8 → terms_fit p.count ≡ true → 0 < length (given p)
some_given p l e = let t = length-take p.count p.terms in grind (arith, nat_tests)

pub below_64 : (n : ℕ) (ts : List Term) → windows_below (min n 64) ts ≡ true → windows_below 64 ts ≡ true
below_64 n ts e = below_more (min n 64) 64 ts (omega arith) e
