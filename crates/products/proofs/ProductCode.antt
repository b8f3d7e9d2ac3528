-- What the code of the product rule computes, as numbers.
use Rattle.std.proofs.Common.{◌≡◌, suc, true, false, ◌&&◌, ◌||◌, ◌⊎◌, ℤ, pos, negsuc, ◌*ℤ◌, neg_ℤ, nat_abs, ◌≤ℤ◌, ◌<ℤ◌, sym, refl, ap, ◌∙◌, ap₂, inl, inr, arith, w32, w64, to_z, of_z}
use lib.IntN.{*ℤ_comm}
use lib.Signed.{le_z, lt_z}
use Rattle.std.specs.Int.{int_min, int_max, int_div_euclid}
use Rattle.std.proofs.lemmas.Int.{ints, clamps}
use Rattle.windows.specs.Sets.{eq_z, In, range, between}
use Rattle.windows.specs.SetLaws.{tests, lt_z_tells, is_between, range_some}
use Rattle.windows.specs.SpanLaws.{in_range, range_in}
use Rattle.sums.specs.Sizes.{Small}
use Rattle.sums.proofs.Signed.{mul_between}
use Rattle.sums.proofs.SumCode.{floor_is, times_neg, neg_times}
use Rattle.products.specs.Products.{least_product, greatest_product, among_quotients, size, up_from_zero, down_from_zero, weakly_divides}
use Rattle.products.proofs.ProductLaws.{least_product_bounds, least_product_reached, greatest_product_bounds, greatest_product_reached}

-- ---- the corners
low_of : (l x m n : ℤ) → l ≤ℤ m → l ≤ℤ n → ((m ≤ℤ x) × (x ≤ℤ n)) ⊎ ((n ≤ℤ x) × (x ≤ℤ m)) → l ≤ℤ x
low_of l x m n p q (inl b) = omega (arith, ints)
low_of l x m n p q (inr b) = omega (arith, ints)

high_of : (h x m n : ℤ) → m ≤ℤ h → n ≤ℤ h → ((m ≤ℤ x) × (x ≤ℤ n)) ⊎ ((n ≤ℤ x) × (x ≤ℤ m)) → x ≤ℤ h
high_of h x m n p q (inl b) = omega (arith, ints)
high_of h x m n p q (inr b) = omega (arith, ints)

-- x times y, for x from a to b
across : (y a x b : ℤ) → a ≤ℤ x → x ≤ℤ b → (((a *ℤ y) ≤ℤ (x *ℤ y)) × ((x *ℤ y) ≤ℤ (b *ℤ y))) ⊎ (((b *ℤ y) ≤ℤ (x *ℤ y)) × ((x *ℤ y) ≤ℤ (a *ℤ y)))
across y a x b p q = rw (*ℤ_comm a y, *ℤ_comm x y, *ℤ_comm b y) (mul_between y a x b p q)

corners_low : (l a b c d x y : ℤ) → l ≤ℤ (a *ℤ c) → l ≤ℤ (a *ℤ d) → l ≤ℤ (b *ℤ c) → l ≤ℤ (b *ℤ d) → a ≤ℤ x → x ≤ℤ b → c ≤ℤ y → y ≤ℤ d → l ≤ℤ (x *ℤ y)
corners_low l a b c d x y ac ad bc bd p q r s =
    low_of l (x *ℤ y) (x *ℤ c) (x *ℤ d) (low_of l (x *ℤ c) (a *ℤ c) (b *ℤ c) ac bc (across c a x b p q)) (low_of l (x *ℤ d) (a *ℤ d) (b *ℤ d) ad bd (across d a x b p q)) (mul_between x c y d r s)

corners_high : (h a b c d x y : ℤ) → (a *ℤ c) ≤ℤ h → (a *ℤ d) ≤ℤ h → (b *ℤ c) ≤ℤ h → (b *ℤ d) ≤ℤ h → a ≤ℤ x → x ≤ℤ b → c ≤ℤ y → y ≤ℤ d → (x *ℤ y) ≤ℤ h
corners_high h a b c d x y ac ad bc bd p q r s =
    high_of h (x *ℤ y) (x *ℤ c) (x *ℤ d) (high_of h (x *ℤ c) (a *ℤ c) (b *ℤ c) ac bc (across c a x b p q)) (high_of h (x *ℤ d) (a *ℤ d) (b *ℤ d) ad bd (across d a x b p q)) (mul_between x c y d r s)

abbrev min4 : ℤ → ℤ → ℤ → ℤ → ℤ
min4 w x y z = int_min (int_min w x) (int_min y z)

abbrev max4 : ℤ → ℤ → ℤ → ℤ → ℤ
max4 w x y z = int_max (int_max w x) (int_max y z)

min4_tells : (w x y z : ℤ) → (min4 w x y z ≤ℤ w) × (min4 w x y z ≤ℤ x) × (min4 w x y z ≤ℤ y) × (min4 w x y z ≤ℤ z)
min4_tells w x y z = (omega (arith, ints, clamps), omega (arith, ints, clamps), omega (arith, ints, clamps), omega (arith, ints, clamps))

max4_tells : (w x y z : ℤ) → (w ≤ℤ max4 w x y z) × (x ≤ℤ max4 w x y z) × (y ≤ℤ max4 w x y z) × (z ≤ℤ max4 w x y z)
max4_tells w x y z = (omega (arith, ints, clamps), omega (arith, ints, clamps), omega (arith, ints, clamps), omega (arith, ints, clamps))

-- no less than the least of four, and no more than each: the least itself
least_of : (l w x y z : ℤ) → min4 w x y z ≤ℤ l → l ≤ℤ w → l ≤ℤ x → l ≤ℤ y → l ≤ℤ z → l ≡ min4 w x y z
least_of l w x y z h p q r s = omega (arith, ints, clamps)

greatest_of : (g w x y z : ℤ) → g ≤ℤ max4 w x y z → w ≤ℤ g → x ≤ℤ g → y ≤ℤ g → z ≤ℤ g → g ≡ max4 w x y z
greatest_of g w x y z h p q r s = omega (arith, ints, clamps)

first : (a b : ℤ) → a ≤ℤ b → In a (range a b)
first a b h = in_range a b a (omega (arith, ints)) h

last : (a b : ℤ) → a ≤ℤ b → In b (range a b)
last a b h = in_range a b b h (omega (arith, ints))

module _ (a b c d : ℤ) (h : a ≤ℤ b) (k : c ≤ℤ d) where
  least_corner : least_product (range a b) (range c d) ≡ min4 (a *ℤ c) (a *ℤ d) (b *ℤ c) (b *ℤ d)
  least_corner =
      let r = least_product_reached (range a b) (range c d) (range_some a b h) (range_some c d k) in
      let x = range_in a b r.0 r.2 in
      let y = range_in c d r.1 r.3 in
      let m = min4_tells (a *ℤ c) (a *ℤ d) (b *ℤ c) (b *ℤ d) in
      let low = least_product_bounds (range a b) (range c d) in
      least_of _ _ _ _ _ (rw r.4 (corners_low _ a b c d r.0 r.1 m.0 m.1 m.2 m.3 x.0 x.1 y.0 y.1)) (low a c (first a b h) (first c d k)) (low a d (first a b h) (last c d k)) (low b c (last a b h) (first c d k)) (low b d (last a b h) (last c d k))

  greatest_corner : greatest_product (range a b) (range c d) ≡ max4 (a *ℤ c) (a *ℤ d) (b *ℤ c) (b *ℤ d)
  greatest_corner =
      let r = greatest_product_reached (range a b) (range c d) (range_some a b h) (range_some c d k) in
      let x = range_in a b r.0 r.2 in
      let y = range_in c d r.1 r.3 in
      let m = max4_tells (a *ℤ c) (a *ℤ d) (b *ℤ c) (b *ℤ d) in
      let high = greatest_product_bounds (range a b) (range c d) in
      greatest_of _ _ _ _ _ (rw r.4 (corners_high _ a b c d r.0 r.1 m.0 m.1 m.2 m.3 x.0 x.1 y.0 y.1)) (high a c (first a b h) (first c d k)) (high a d (first a b h) (last c d k)) (high b c (last a b h) (first c d k)) (high b d (last a b h) (last c d k))

-- ---- quotients by numbers above 0
under_is : (c b v : ℤ) → pos 0 <ℤ c → le_z (v *ℤ c) b ≡ le_z v (int_div_euclid b c)
under_is (pos m) b v h = ap (λ z. le_z z b) (*ℤ_comm v (pos m)) ∙ sym (floor_is m (omega (arith, ints)) b v)
under_is (negsuc n) b v h = absurd (omega (arith, ints))

over_is : (c a v : ℤ) → pos 0 <ℤ c → le_z a (v *ℤ c) ≡ le_z (neg_ℤ (int_div_euclid (neg_ℤ a) c)) v
over_is (pos m) a v h =
    let e = *ℤ_comm v (pos m) in
    let f = times_neg m v in
    let g = floor_is m (omega (arith, ints)) (neg_ℤ a) (neg_ℤ v) in
    grind (arith, ints, tests)
over_is (negsuc n) a v h = absurd (omega (arith, ints))

-- of two dividends in order the first decides what is least, and the second what is greatest
over_two : (a b x y : ℤ) → a ≤ℤ b → (le_z a x || (le_z a y || (le_z b x || le_z b y))) ≡ (le_z a x || le_z a y)
over_two a b x y h = grind (arith, ints, tests)

under_two : (a b x y : ℤ) → a ≤ℤ b → (le_z x a || (le_z y a || (le_z x b || le_z y b))) ≡ (le_z x b || le_z y b)
under_two a b x y h = grind (arith, ints, tests)

least_le : (m n v : ℤ) → (le_z m v || le_z n v) ≡ le_z (int_min m n) v
least_le m n v = grind (arith, ints, clamps, tests)

le_greatest : (m n v : ℤ) → (le_z v m || le_z v n) ≡ le_z v (int_max m n)
le_greatest m n v = grind (arith, ints, clamps, tests)

-- the numbers among the quotients, for divisors above 0
pub among_right : (a b c d v : ℤ) → pos 0 <ℤ c → pos 0 <ℤ d → a ≤ℤ b → among_quotients a b c d v ≡ between (int_min (neg_ℤ (int_div_euclid (neg_ℤ a) c)) (neg_ℤ (int_div_euclid (neg_ℤ a) d))) (int_max (int_div_euclid b c) (int_div_euclid b d)) v
among_right a b c d v p q h =
    let x : lt_z (pos 0) c ≡ true = sym (omega (arith, ints)) in
    let y : lt_z (pos 0) d ≡ true = sym (omega (arith, ints)) in
    rw (x, y) (ap₂ ◌&&◌ (over_two a b _ _ h ∙ ap₂ ◌||◌ (over_is c a v p) (over_is d a v q) ∙ least_le _ _ v) (under_two a b _ _ h ∙ ap₂ ◌||◌ (under_is c b v p) (under_is d b v q) ∙ le_greatest _ _ v))

-- with all signs turned: divisors below 0
times_turned : (v c : ℤ) → v *ℤ neg_ℤ c ≡ neg_ℤ (v *ℤ c)
times_turned (pos m) c = times_neg m c
times_turned (negsuc n) c = neg_times n (neg_ℤ c) ∙ ap neg_ℤ (times_neg (suc n) c) ∙ ap neg_ℤ (sym (neg_times n c))

at_most_turned : (b x y x' y' : ℤ) → x' ≡ neg_ℤ x → y' ≡ neg_ℤ y → (le_z x b || le_z y b) ≡ (le_z (neg_ℤ b) y' || le_z (neg_ℤ b) x')
at_most_turned b x y x' y' e f = grind (arith, ints, tests)

at_least_turned : (a x y x' y' : ℤ) → x' ≡ neg_ℤ x → y' ≡ neg_ℤ y → (le_z a x || le_z a y) ≡ (le_z y' (neg_ℤ a) || le_z x' (neg_ℤ a))
at_least_turned a x y x' y' e f = grind (arith, ints, tests)

pub among_left : (a b c d v : ℤ) → c <ℤ pos 0 → d <ℤ pos 0 → a ≤ℤ b → among_quotients a b c d v ≡ among_quotients (neg_ℤ b) (neg_ℤ a) (neg_ℤ d) (neg_ℤ c) v
among_left a b c d v p q h =
    let x : lt_z (pos 0) c ≡ false = sym (omega (arith, ints)) in
    let y : lt_z (pos 0) d ≡ false = sym (omega (arith, ints)) in
    let z : lt_z (pos 0) (neg_ℤ c) ≡ true = sym (omega (arith, ints)) in
    let w : lt_z (pos 0) (neg_ℤ d) ≡ true = sym (omega (arith, ints)) in
    let k : neg_ℤ b ≤ℤ neg_ℤ a = omega (arith, ints) in
    let e = times_turned v c in
    let f = times_turned v d in
    rw (x, y, z, w) (ap₂ ◌&&◌ (under_two a b _ _ h ∙ at_most_turned b _ _ _ _ e f ∙ sym (over_two _ _ _ _ k)) (over_two a b _ _ h ∙ at_least_turned a _ _ _ _ e f ∙ sym (under_two _ _ _ _ k)))

-- ---- what the code computes
-- a corner, as the code multiplies it
pub corner : (r x y a b : ℤ) → r ≡ to_z w32 (of_z w32 x) *ℤ to_z w32 (of_z w32 y) → x ≡ a → y ≡ b → Small 1000000 a → Small 1000000 b → r ≡ a *ℤ b
corner r x y a b e p q h k =
    let m : to_z w32 (of_z w32 x) ≡ a = omega (arith, ints, clamps) in
    let n : to_z w32 (of_z w32 y) ≡ b = omega (arith, ints, clamps) in
    e ∙ ap₂ ◌*ℤ◌ m n

-- the larger of two sizes, as the code computes it
pub sizes : (a b x y e : ℤ) → Small 1000000 a → Small 1000000 b → x ≡ pos (nat_abs (to_z w64 (of_z w64 a))) → y ≡ pos (nat_abs (to_z w64 (of_z w64 b))) → e ≡ int_max (to_z w64 (of_z w64 x)) (to_z w64 (of_z w64 y)) → (e ≡ size a b) × Small 1000000 e
sizes a b x y e h k p q m = (omega (arith, ints, clamps), (omega (arith, ints, clamps), omega (arith, ints, clamps)))

-- a weak division of the same ends
pub weak_at : (a b c d a' b' c' d' v : ℤ) → (a' ≡ a) × (b' ≡ b) → (c' ≡ c) × (d' ≡ d) → weakly_divides a b c d v ≡ weakly_divides a' b' c' d' v
weak_at a b c d a' b' c' d' v (p, q) (r, s) = cc

-- ---- the cases of a weak division, as the code tells them apart
pub weak_free : (a b c d v l h : ℤ) → true ≡ (between a b (pos 0) && between c d (pos 0)) → l ≤ℤ v → v ≤ℤ h → weakly_divides a b c d v ≡ between l h v
unfolding weakly_divides
weak_free a b c d v l h e p q = let f = sym e in rw f (sym (is_between l h v p q))

module _ (a b c d v : ℤ) (k : c ≤ℤ d) (n : false ≡ (between a b (pos 0) && between c d (pos 0))) where
  pub weak_wide : (e : ℤ) → true ≡ (lt_z c (pos 0) && lt_z (pos 0) d) → e ≡ size a b → weakly_divides a b c d v ≡ between (neg_ℤ e) e v
  unfolding weakly_divides
  weak_wide e w q =
      let f = sym n in
      let g : (eq_z c (pos 0) && eq_z d (pos 0)) ≡ false = grind (arith, ints, tests, lt_z_tells) in
      let o = sym w in
      rw (f, g, o) (ap (λ z. between (neg_ℤ z) z v) (sym q))

  pub weak_right : (m : ℤ) → false ≡ (lt_z c (pos 0) && lt_z (pos 0) d) → pos 0 <ℤ d → m ≡ int_max c (pos 1) → weakly_divides a b c d v ≡ among_quotients a b m d v
  unfolding weakly_divides
  weak_right m w h q =
      let f = sym n in
      let g : (eq_z c (pos 0) && eq_z d (pos 0)) ≡ false = grind (arith, ints, tests) in
      let o = sym w in
      let x : up_from_zero c ≡ m = grind (arith, ints, clamps, tests, lt_z_tells) in
      let y : down_from_zero d ≡ d = grind (arith, ints, tests) in
      rw (f, g, o) (ap₂ (λ x y. among_quotients a b x y v) x y)

  pub weak_left : (m : ℤ) → c <ℤ pos 0 → d ≤ℤ pos 0 → m ≡ int_min d (negsuc 0) → weakly_divides a b c d v ≡ among_quotients a b c m v
  unfolding weakly_divides
  weak_left m h l q =
      let f = sym n in
      let g : (eq_z c (pos 0) && eq_z d (pos 0)) ≡ false = grind (arith, ints, tests) in
      let o : (lt_z c (pos 0) && lt_z (pos 0) d) ≡ false = grind (arith, ints, lt_z_tells) in
      let x : up_from_zero c ≡ c = grind (arith, ints, tests) in
      let y : down_from_zero d ≡ m = grind (arith, ints, clamps, tests) in
      rw (f, g, o) (ap₂ (λ x y. among_quotients a b x y v) x y)

  pub weak_none : pos 0 ≤ℤ c → d ≤ℤ pos 0 → weakly_divides a b c d v ≡ between (pos 1) (pos 0) v
  unfolding weakly_divides
  weak_none h l =
      let f = sym n in
      let g : (eq_z c (pos 0) && eq_z d (pos 0)) ≡ true = grind (arith, ints, tests) in
      let e : between (pos 1) (pos 0) v ≡ false = grind (arith, ints, tests) in
      rw (f, g, e) refl

pub same_quotients : (a b c d a' b' c' d' v : ℤ) → a ≡ a' → b ≡ b' → c ≡ c' → d ≡ d' → among_quotients a b c d v ≡ among_quotients a' b' c' d' v
same_quotients a b c d a' b' c' d' v p q r s = ap (λ z. among_quotients z b c d v) p ∙ ap (λ z. among_quotients a' z c d v) q ∙ ap (λ z. among_quotients a' b' z d v) r ∙ ap (λ z. among_quotients a' b' c' z v) s

-- the corners, as the code joins them
pub joined_least : (a b c d w x y z r : ℤ) → a ≤ℤ b → c ≤ℤ d → w ≡ a *ℤ c → x ≡ a *ℤ d → y ≡ b *ℤ c → z ≡ b *ℤ d → r ≡ min4 w x y z → r ≡ least_product (range a b) (range c d)
joined_least a b c d w x y z r h k ew ex ey ez e = e ∙ ap₂ int_min (ap₂ int_min ew ex) (ap₂ int_min ey ez) ∙ sym (least_corner a b c d h k)

pub joined_greatest : (a b c d w x y z r : ℤ) → a ≤ℤ b → c ≤ℤ d → w ≡ a *ℤ c → x ≡ a *ℤ d → y ≡ b *ℤ c → z ≡ b *ℤ d → r ≡ max4 w x y z → r ≡ greatest_product (range a b) (range c d)
joined_greatest a b c d w x y z r h k ew ex ey ez e = e ∙ ap₂ int_max (ap₂ int_max ew ex) (ap₂ int_max ey ez) ∙ sym (greatest_corner a b c d h k)
