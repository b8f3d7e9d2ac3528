-- The span kind: what its windows are, and what its calls give.
use Rattle.std.proofs.Common.{◌≡◌, ℕ, zero, suc, ◌≤◌, Bool, true, false, cond, ◌&&◌, eqb, ◌⊎◌, List, [], ◌∷◌, length, ℤ, pos, negsuc, ◌+ℤ◌, ◌-ℤ◌, ◌≤ℤ◌, ◌<ℤ◌, Some, None, sym, refl, ◌∙◌, subst, ap₂, arith, w32, SFits, to_z, of_z}
use Rattle.std.specs.Int.{int_min, int_max}
use Rattle.std.specs.Ordering.{int_eq}
use Rattle.std.proofs.lemmas.Int.{ints}
use Rattle.std.proofs.lemmas.Bool.Decides.{nat_tests, Decides-int_eq, same_from_decides}
use Rattle.windows.specs.Sets.{eq_z, has, In, Within, up_from, count, range, hull, meet, remove, sole_of, same_set}
use Rattle.windows.specs.Kinds.{Of, Proper, all_but, spans}
use Rattle.windows.specs.Rows.{Stands, Checked, span_stands, span_numbers}
use Rattle.windows.specs.declared.span.SpanRow.{SpanRow}
use Rattle.windows.specs.SetLaws.{tests, never, bool_same, between_is, is_between, has_range, rising_range, range_some, count_is, length_range, kept_range, Convex, hull_convex, convex_hull, within_hull, hull_mono, hull_again, rising_hull, hull_none, within_both, has_remove}

pub spans_proper : Proper spans
spans_proper = record { holds = within_hull; mono = hull_mono; again = hull_again; rising = λ s r. rising_hull s; none = hull_none; from = omega (arith, ints); to = omega (arith, ints) }

pub in_range : (lo hi v : ℤ) → lo ≤ℤ v → v ≤ℤ hi → In v (range lo hi)
in_range lo hi v l h = has_range lo hi v ∙ is_between lo hi v l h

pub range_in : (lo hi v : ℤ) → In v (range lo hi) → (lo ≤ℤ v) × (v ≤ℤ hi)
range_in lo hi v i = between_is lo hi v (sym (has_range lo hi v) ∙ i)

pub hull_range : (lo hi : ℤ) → hull (range lo hi) ≡ range lo hi
unfolding Convex
hull_range lo hi = hull_convex (range lo hi) (rising_range lo hi) (λ a b v i j l h. let x = range_in lo hi a i in let y = range_in lo hi b j in in_range lo hi v (omega (arith, ints)) (omega (arith, ints)))

pub span_of : (lo hi : ℤ) → lo ≤ℤ hi → negsuc 999999 ≤ℤ lo → hi ≤ℤ pos 1000000 → Of spans (range lo hi)
span_of lo hi h l g = record { rising = rising_range lo hi; some = range_some lo hi h; closed = hull_range lo hi; bounded = λ v i. let b = range_in lo hi v i in (omega (arith, ints), omega (arith, ints)) }

-- ---- rows
pub row_is : (r : SpanRow) → r.lo ≤ℤ r.hi → negsuc 999999 ≤ℤ r.lo → r.hi ≤ℤ pos 1000000 → span_numbers r ≡ range r.lo r.hi
unfolding span_numbers
row_is r h l g = let e : span_stands r ≡ true = grind (arith, ints, tests) in rw e refl

pub row_none : (r : SpanRow) → span_stands r ≡ false → span_numbers r ≡ []
unfolding span_numbers
row_none r e = rw e refl

-- the check tells what a row stands for
pub checked : (r : SpanRow) → Checked r (span_stands r)
checked r = go (span_stands r) refl
  where
    go : (t : Bool) → span_stands r ≡ t → Checked r t
    go true e = let s : Stands r.lo r.hi = grind (arith, ints, tests) in (s, row_is r s.0 s.1 s.2)
    go false e = row_none r e

-- a row that passes its check stands for a span
pub row_of : (r : SpanRow) → (span_numbers r ≡ [] → ⊥) → Of spans (span_numbers r)
row_of r h = go (span_stands r) (checked r)
  where
    go : (t : Bool) → Checked r t → Of spans (span_numbers r)
    go true (s, e) = subst (Of spans) (sym e) (span_of r.lo r.hi s.0 s.1 s.2)
    go false e = absurd (h e)

-- ---- calls
pub meet_range : (a b c d : ℤ) → meet (range a b) (range c d) ≡ range (int_max a c) (int_min b d)
unfolding meet
meet_range a b c d = kept_range a b c d (has (range c d)) (λ v l h. has_range c d v)

-- without v: an end that is v moves in
pub all_but_range : (lo hi v l h : ℤ) → lo ≤ℤ hi → ((v ≡ lo) × (l ≡ lo +ℤ pos 1)) ⊎ ((v ≡ lo → ⊥) × (l ≡ lo)) → ((v ≡ hi) × (h ≡ hi -ℤ pos 1)) ⊎ ((v ≡ hi → ⊥) × (h ≡ hi)) → all_but spans (range lo hi) v ≡ range l h
unfolding all_but
all_but_range lo hi v l h o p q = within_both (hull (remove v (range lo hi))) (range l h) (rising_hull (remove v (range lo hi))) (rising_range l h) there back
  where
    inner : Within (remove v (range lo hi)) (range l h)
    inner x i =
        let e = has_remove v (range lo hi) x in
        let r = has_range lo hi x in
        let s = has_range l h x in
        grind (arith, ints, tests)

    there : Within (hull (remove v (range lo hi))) (range l h)
    there x i = rw (hull_range l h) at (hull_mono (remove v (range lo hi)) (range l h) inner x i)

    back : Within (range l h) (hull (remove v (range lo hi)))
    back x i =
        let b = range_in l h x i in
        let e = has_remove v (range lo hi) l in
        let f = has_remove v (range lo hi) h in
        let r = has_range lo hi l in
        let t = has_range lo hi h in
        let first : In l (remove v (range lo hi)) = grind (arith, ints, tests) in
        let last : In h (remove v (range lo hi)) = grind (arith, ints, tests) in
        unfold Convex in convex_hull (remove v (range lo hi)) l h x (within_hull _ l first) (within_hull _ h last) b.0 b.1

-- the ends as `cond` has them
pub all_but_ends : (lo hi v : ℤ) → lo ≤ℤ hi → all_but spans (range lo hi) v ≡ range (cond (eq_z v lo) (lo +ℤ pos 1) lo) (cond (eq_z v hi) (hi +ℤ negsuc 0) hi)
all_but_ends lo hi v o = all_but_range lo hi v _ _ o (grind (arith, tests)) (grind (arith, tests))

-- they are in range
pub moved_low : (lo hi v : ℤ) → Stands lo hi → (lo ≤ℤ cond (eq_z v lo) (lo +ℤ pos 1) lo) × (cond (eq_z v lo) (lo +ℤ pos 1) lo ≤ℤ pos 1000001)
moved_low lo hi v s = grind (arith, ints)

pub moved_high : (lo hi v : ℤ) → Stands lo hi → (cond (eq_z v hi) (hi +ℤ negsuc 0) hi ≤ℤ hi) × (negsuc 1000000 ≤ℤ cond (eq_z v hi) (hi +ℤ negsuc 0) hi)
moved_high lo hi v s = grind (arith, ints)

pub sole_range_one : (lo hi : ℤ) → lo ≡ hi → sole_of (range lo hi) ≡ Some lo
unfolding range
sole_range_one lo hi e = let k = count_is lo hi in let c : count lo hi ≡ 1 = grind (arith, ints) in rw c refl

pub sole_range_more : (lo hi : ℤ) → lo <ℤ hi → sole_of (range lo hi) ≡ None
unfolding range
sole_range_more lo hi h = go (count lo hi) (let k = count_is lo hi in grind (arith, ints))
  where
    go : (n : ℕ) → 2 ≤ n → sole_of (up_from lo n) ≡ None
    go zero h = absurd (omega arith)
    go (suc zero) h = absurd (omega arith)
    go (suc (suc n)) h = refl

pub size_range : (lo hi : ℤ) → lo ≤ℤ hi → pos (length (range lo hi)) ≡ hi -ℤ lo +ℤ pos 1
size_range lo hi h = let e = length_range lo hi in let k = count_is lo hi in grind (arith, ints)

pub same_set_is : (s t : List ℤ) → same_set s t ≡ true → s ≡ t
same_set_is [] [] e = refl
same_set_is [] (y ∷ t) e = never e
same_set_is (x ∷ s) [] e = never e
same_set_is (x ∷ s) (y ∷ t) e = let ih = same_set_is s t in grind (arith, tests)

pub same_set_self : (s : List ℤ) → same_set s s ≡ true
same_set_self [] = refl
same_set_self (x ∷ s) = let ih = same_set_self s in grind (arith, tests)

pub same_range : (a b c d : ℤ) → a ≤ℤ b → c ≤ℤ d → same_set (range a b) (range c d) ≡ (eq_z a c && eq_z b d)
same_range a b c d h k = bool_same _ _ there back
  where
    there : same_set (range a b) (range c d) ≡ true → (eq_z a c && eq_z b d) ≡ true
    there e =
        let q = same_set_is (range a b) (range c d) e in
        let p1 = range_in c d a (subst (In a) q (in_range a b a (omega (arith, ints)) h)) in
        let p2 = range_in c d b (subst (In b) q (in_range a b b h (omega (arith, ints)))) in
        let p3 = range_in a b c (subst (In c) (sym q) (in_range c d c (omega (arith, ints)) k)) in
        let p4 = range_in a b d (subst (In d) (sym q) (in_range c d d k (omega (arith, ints)))) in
        grind (arith, ints, tests)

    back : (eq_z a c && eq_z b d) ≡ true → same_set (range a b) (range c d) ≡ true
    back e = let p : a ≡ c = grind (arith, tests) in let q : b ≡ d = grind (arith, tests) in rw (p, q) (same_set_self (range c d))

-- two spans with the same numbers have the same ends
pub range_ends : (a b c d : ℤ) → a ≤ℤ b → c ≤ℤ d → range a b ≡ range c d → (eq_z a c && eq_z b d) ≡ true
range_ends a b c d h k e = sym (same_range a b c d h k) ∙ subst (λ s. same_set (range a b) s ≡ true) e (same_set_self (range a b))

-- two rows that stand for one window are one row
pub row_faithful : (a b : SpanRow) → (span_numbers a ≡ [] → ⊥) → span_numbers a ≡ span_numbers b → a ≡ b
row_faithful a b h q = go (span_stands a) (span_stands b) (checked a) (checked b)
  where
    go : (t u : Bool) → Checked a t → Checked b u → a ≡ b
    go true true (s, i) (t, j) =
        let r = range_ends a.lo a.hi b.lo b.hi s.0 t.0 (sym i ∙ q ∙ j) in
        ap₂ {C = SpanRow} (λ (l h : ℤ). record { lo = l; hi = h }) (grind (arith, tests)) (grind (arith, tests))
    go true false s f = absurd (h (q ∙ f))
    go false u e f = absurd (h e)

-- ---- the same at the machine's numbers
pub back : (lo hi : ℤ) → Stands lo hi → (to_z w32 (of_z w32 lo) ≡ lo) × (to_z w32 (of_z w32 hi) ≡ hi)
back lo hi s = (omega (arith, ints), omega (arith, ints))

pub bits_same : (a b : ℤ) → SFits w32 a → SFits w32 b → eqb (of_z w32 a) (of_z w32 b) ≡ eq_z a b
bits_same a b f g = bool_same _ _ there again
  where
    there : eqb (of_z w32 a) (of_z w32 b) ≡ true → eq_z a b ≡ true
    there e = grind (arith, ints, nat_tests, tests)

    again : eq_z a b ≡ true → eqb (of_z w32 a) (of_z w32 b) ≡ true
    again e = let r : a ≡ b = grind (arith, tests) in grind (arith, nat_tests)

pub fits_lo : (lo hi : ℤ) → Stands lo hi → SFits w32 lo
fits_lo lo hi s = omega (arith, ints)

pub fits_hi : (lo hi : ℤ) → Stands lo hi → SFits w32 hi
fits_hi lo hi s = omega (arith, ints)

-- the library's equality is that of the definitions
pub eq_is : (a b : ℤ) → int_eq a b ≡ eq_z a b
eq_is a b = same_from_decides (int_eq a b) (eq_z a b) (Decides-int_eq a b) ((λ e. grind (arith, tests)), (λ e. grind (arith, tests)))

pub alike_ends : (a b c d : ℤ) → Stands a b → Stands c d → same_set (range a b) (range c d) ≡ (int_eq a c && int_eq b d)
alike_ends a b c d s t =
    let e = eq_is a c in
    let f = eq_is b d in
    let g = same_range a b c d s.0 t.0 in
    cc

-- the same at the machine's numbers
pub alike_is : (a b c d : ℤ) → Stands a b → Stands c d → same_set (range a b) (range c d) ≡ (eqb (of_z w32 a) (of_z w32 c) && eqb (of_z w32 b) (of_z w32 d))
alike_is a b c d s t =
    let e = bits_same a c (fits_lo a b s) (fits_lo c d t) in
    let f = bits_same b d (fits_hi a b s) (fits_hi c d t) in
    let g = same_range a b c d s.0 t.0 in
    cc
