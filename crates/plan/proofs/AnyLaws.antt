-- Tests of the numbers below a limit.
use Rattle.std.proofs.Common.{◌≡◌, ℕ, zero, suc, ◌<◌, ◌≤◌, Bool, true, false, ◌||◌, take, sym, refl, ap, ap₂, ◌∙◌, ⊎_elim, add-one, arith}
use Rattle.std.specs.List.{list_any, range_with_len}
use Rattle.std.proofs.lemmas.List.{take_all}
use Rattle.std.proofs.lemmas.List.Folds.{list_any_more}
use Rattle.std.proofs.lemmas.List.FromFn.{length-range_with_len, get_or-range_with_len}
use Rattle.std.proofs.lemmas.Bool.{or_left, or_right, or_parts, cases_eq}
use Rattle.rulebook.specs.Answers.{any}

pub any_none : (f : ℕ → Bool) (n k : ℕ) → any f n ≡ false → k < n → f k ≡ false
any_none f zero k e l = absurd (omega arith)
any_none f (suc n) k e l =
    let (p, q) = or_parts (any f n) (f n) e in
    ⊎_elim (λ (h : k ≡ n). rw h q) (λ (h : k ≡ n → ⊥). any_none f n k p (omega arith)) (cases_eq k n)

pub any_all : (f : ℕ → Bool) (n : ℕ) → ((k : ℕ) → f k ≡ false) → any f n ≡ false
any_all f zero h = refl
any_all f (suc n) h = rw (any_all f n h) (h n)

pub any_some : (f : ℕ → Bool) (n k : ℕ) → k < n → f k ≡ true → any f n ≡ true
any_some f zero k l e = absurd (omega arith)
any_some f (suc n) k l e =
    ⊎_elim (λ (h : k ≡ n). or_right (any f n) (f n) (rw h at e)) (λ (h : k ≡ n → ⊥). or_left (any f n) (f n) (any_some f n k (omega arith) e)) (cases_eq k n)

-- a test of the numbers of a range
any_in : (f : ℕ → Bool) (n i : ℕ) → i ≤ n → list_any f (take i (range_with_len 0 n)) ≡ any f i
any_in f n zero l = refl
any_in f n (suc i) l = ap (λ k. list_any f (take k (range_with_len 0 n))) (sym (add-one i)) ∙ list_any_more f (range_with_len 0 n) i 0 (simp length-range_with_len l) ∙ ap₂ {C = Bool} (λ p q. p || q) (any_in f n i (omega arith)) (ap f (get_or-range_with_len 0 n i 0 l ∙ omega arith))

pub any_in_range : (f : ℕ → Bool) (n : ℕ) → list_any f (range_with_len 0 n) ≡ any f n
any_in_range f n = ap (list_any f) (sym (take_all n (range_with_len 0 n) (simp length-range_with_len (omega arith)))) ∙ any_in f n n (omega arith)

pub any_like : (f g : ℕ → Bool) (n : ℕ) → ((k : ℕ) → k < n → f k ≡ g k) → any f n ≡ any g n
any_like f g zero h = refl
any_like f g (suc n) h = let e : f n ≡ g n = h n (omega arith) in let p : any f n ≡ any g n = any_like f g n (λ k l. h k (omega arith)) in cc
