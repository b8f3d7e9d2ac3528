-- What is asked of a sum before it is accepted.
use Rattle.std.specs.Prelude.{◌≡◌, ℕ, min, Bool, true, cond, not, ◌&&◌, List, [], ◌∷◌, take, ℤ, pos, negsuc, Some, None, Option, nat_le, nat_lt}
use Rattle.windows.specs.Sets.{eq_z, between}
use Rattle.rulebook.specs.declared.answer.BookRefusal.{BookRefusal}
use Rattle.rulebook.specs.declared.answer.BookRefusal.TheVariants as refusal
use Rattle.sums.specs.Sums.{in_terms}
use Rattle.sums.specs.declared.posted.Term.{Term}
use Rattle.sums.specs.declared.posted.PostedSum.{PostedSum}

-- are there 1 to 8 terms
abbrev pub terms_fit : ℕ → Bool
terms_fit count = nat_le 1 count && nat_le count 8

-- is every window number below n
abbrev pub windows_below : ℕ → List Term → Bool
windows_below n [] = true
windows_below n (t ∷ ts) = nat_lt t.window n && windows_below n ts

-- are all window numbers different
abbrev pub apart : List Term → Bool
apart [] = true
apart (t ∷ ts) = not (in_terms ts t.window) && apart ts

-- no window stands in two terms
abbrev pub Apart : List Term → Type 0
Apart ts = apart ts ≡ true

-- is the weight within 10,000, and not 0
abbrev pub weighs : ℤ → Bool
weighs w = between (negsuc 9999) (pos 10000) w && not (eq_z w (pos 0))

-- does every weight fit
abbrev pub weights_fit : List Term → Bool
weights_fit [] = true
weights_fit (t ∷ ts) = weighs t.weight && weights_fit ts

-- is the bound within 1,000,000,000
abbrev pub bound_fits : ℤ → Bool
bound_fits b = between (negsuc 999999999) (pos 1000000000) b

-- the terms that were given
abbrev pub given : PostedSum → List Term
given p = take p.count p.terms

-- what a sum is refused for on n windows; a table has at most 64
abbrev pub sum_asks : PostedSum → ℕ → Option BookRefusal
sum_asks p n =
    cond (not (terms_fit p.count)) (Some refusal.Terms)
    (cond (not (windows_below (min n 64) (given p))) (Some refusal.Window)
    (cond (not (apart (given p))) (Some refusal.Repeated)
    (cond (not (weights_fit (given p))) (Some refusal.Weight)
    (cond (not (bound_fits p.bound)) (Some refusal.Bound)
    None))))
