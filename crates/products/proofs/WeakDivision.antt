-- The weak division of spans: its cases, and what wider spans, products and gaps do to it.
use Rattle.std.proofs.Common.{◌≡◌, Bool, true, false, ◌&&◌, ◌||◌, ◌⊎◌, ℤ, pos, negsuc, ◌*ℤ◌, neg_ℤ, ◌≤ℤ◌, ◌<ℤ◌, sym, refl, ap, ◌∙◌, subst₂, inl, inr, arith}
use lib.IntN.{*ℤ_comm, *ℤ-zero}
use lib.Signed.{le_z, lt_z}
use Rattle.std.proofs.lemmas.Int.{ints, clamps}
use Rattle.windows.specs.Sets.{eq_z, between}
use Rattle.windows.specs.SetLaws.{tests, le_z_tells, lt_z_tells, never, between_is, is_between, Gapless}
use Rattle.sums.proofs.Signed.{mul_up, mul_down, mul_between}
use Rattle.products.specs.Products.{among_quotients, size, up_from_zero, down_from_zero, weakly_divides}

pub le_after : (x y z : ℤ) → x ≤ℤ y → y ≤ℤ z → x ≤ℤ z
le_after x y z p q = omega (arith, ints)

same_le : (x y : ℤ) → x ≡ y → x ≤ℤ y
same_le x y e = omega (arith, ints)

-- ---- quotients by two numbers of one sign
-- a lies below one of the products, b above one
abbrev pub Over : ℤ → ℤ → ℤ → ℤ → Type 0
Over a c d v = (a ≤ℤ (v *ℤ c)) ⊎ (a ≤ℤ (v *ℤ d))

abbrev pub Under : ℤ → ℤ → ℤ → ℤ → Type 0
Under b c d v = ((v *ℤ c) ≤ℤ b) ⊎ ((v *ℤ d) ≤ℤ b)

abbrev pub OneSign : ℤ → ℤ → Type 0
OneSign c d = ((pos 0 <ℤ c) × (pos 0 <ℤ d)) ⊎ ((c <ℤ pos 0) × (d <ℤ pos 0))

over_test : (a b x y : ℤ) → a ≤ℤ b → (le_z a x || (le_z a y || (le_z b x || le_z b y))) ≡ true → (a ≤ℤ x) ⊎ (a ≤ℤ y)
over_test a b x y h t = go (le_z_tells a x) (le_z_tells a y)
  where
    go : ((le_z a x ≡ true) × (a ≤ℤ x)) ⊎ ((le_z a x ≡ false) × (x <ℤ a)) → ((le_z a y ≡ true) × (a ≤ℤ y)) ⊎ ((le_z a y ≡ false) × (y <ℤ a)) → (a ≤ℤ x) ⊎ (a ≤ℤ y)
    go (inl p) q = inl p.1
    go (inr p) (inl q) = inr q.1
    go (inr p) (inr q) = absurd (grind (arith, ints, tests))

under_test : (a b x y : ℤ) → a ≤ℤ b → (le_z x a || (le_z y a || (le_z x b || le_z y b))) ≡ true → (x ≤ℤ b) ⊎ (y ≤ℤ b)
under_test a b x y h t = go (le_z_tells x b) (le_z_tells y b)
  where
    go : ((le_z x b ≡ true) × (x ≤ℤ b)) ⊎ ((le_z x b ≡ false) × (b <ℤ x)) → ((le_z y b ≡ true) × (y ≤ℤ b)) ⊎ ((le_z y b ≡ false) × (b <ℤ y)) → (x ≤ℤ b) ⊎ (y ≤ℤ b)
    go (inl p) q = inl p.1
    go (inr p) (inl q) = inr q.1
    go (inr p) (inr q) = absurd (grind (arith, ints, tests))

test_over : (a b x y : ℤ) → (a ≤ℤ x) ⊎ (a ≤ℤ y) → (le_z a x || (le_z a y || (le_z b x || le_z b y))) ≡ true
test_over a b x y o = grind (arith, ints, tests)

test_under : (a b x y : ℤ) → (x ≤ℤ b) ⊎ (y ≤ℤ b) → (le_z x a || (le_z y a || (le_z x b || le_z y b))) ≡ true
test_under a b x y o = grind (arith, ints, tests)

both_true : (p q : Bool) → (p && q) ≡ true → (p ≡ true) × (q ≡ true)
both_true true q e = (refl, e)
both_true false q e = never e

true_both : (p q : Bool) → p ≡ true → q ≡ true → (p && q) ≡ true
true_both p q e f = grind arith

above_zero : (c : ℤ) → pos 0 <ℤ c → lt_z (pos 0) c ≡ true
above_zero c h = grind (arith, ints, lt_z_tells)

below_zero : (c : ℤ) → c <ℤ pos 0 → lt_z (pos 0) c ≡ false
below_zero c h = grind (arith, ints, lt_z_tells)

pub among_out : (a b c d v : ℤ) → OneSign c d → a ≤ℤ b → among_quotients a b c d v ≡ true → Over a c d v × Under b c d v
among_out a b c d v (inl (p, q)) h t =
    let e = above_zero c p in
    let f = above_zero d q in
    let u = both_true _ _ (rw (e, f) at t) in
    (over_test a b (v *ℤ c) (v *ℤ d) h u.0, under_test a b (v *ℤ c) (v *ℤ d) h u.1)
among_out a b c d v (inr (p, q)) h t =
    let e = below_zero c p in
    let f = below_zero d q in
    let u = both_true _ _ (rw (e, f) at t) in
    (over_test a b (v *ℤ c) (v *ℤ d) h u.1, under_test a b (v *ℤ c) (v *ℤ d) h u.0)

pub among_in : (a b c d v : ℤ) → OneSign c d → Over a c d v → Under b c d v → among_quotients a b c d v ≡ true
among_in a b c d v (inl (p, q)) o u =
    let e = above_zero c p in
    let f = above_zero d q in
    rw (e, f) (true_both _ _ (test_over a b (v *ℤ c) (v *ℤ d) o) (test_under a b (v *ℤ c) (v *ℤ d) u))
among_in a b c d v (inr (p, q)) o u =
    let e = below_zero c p in
    let f = below_zero d q in
    rw (e, f) (true_both _ _ (test_under a b (v *ℤ c) (v *ℤ d) u) (test_over a b (v *ℤ c) (v *ℤ d) o))

-- wider bounds and divisors
between_over : (a a' x m n : ℤ) → a' ≤ℤ a → a ≤ℤ x → ((m ≤ℤ x) × (x ≤ℤ n)) ⊎ ((n ≤ℤ x) × (x ≤ℤ m)) → (a' ≤ℤ m) ⊎ (a' ≤ℤ n)
between_over a a' x m n h k (inl p) = inr (omega (arith, ints))
between_over a a' x m n h k (inr p) = inl (omega (arith, ints))

between_under : (b b' x m n : ℤ) → b ≤ℤ b' → x ≤ℤ b → ((m ≤ℤ x) × (x ≤ℤ n)) ⊎ ((n ≤ℤ x) × (x ≤ℤ m)) → (m ≤ℤ b') ⊎ (n ≤ℤ b')
between_under b b' x m n h k (inl p) = inl (omega (arith, ints))
between_under b b' x m n h k (inr p) = inr (omega (arith, ints))

over_mono : (a a' c c' d d' v : ℤ) → a' ≤ℤ a → c' ≤ℤ c → c ≤ℤ d → d ≤ℤ d' → Over a c d v → Over a' c' d' v
over_mono a a' c c' d d' v h i j k (inl o) = between_over a a' (v *ℤ c) (v *ℤ c') (v *ℤ d') h o (mul_between v c' c d' i (omega (arith, ints)))
over_mono a a' c c' d d' v h i j k (inr o) = between_over a a' (v *ℤ d) (v *ℤ c') (v *ℤ d') h o (mul_between v c' d d' (omega (arith, ints)) k)

under_mono : (b b' c c' d d' v : ℤ) → b ≤ℤ b' → c' ≤ℤ c → c ≤ℤ d → d ≤ℤ d' → Under b c d v → Under b' c' d' v
under_mono b b' c c' d d' v h i j k (inl o) = between_under b b' (v *ℤ c) (v *ℤ c') (v *ℤ d') h o (mul_between v c' c d' i (omega (arith, ints)))
under_mono b b' c c' d d' v h i j k (inr o) = between_under b b' (v *ℤ d) (v *ℤ c') (v *ℤ d') h o (mul_between v c' d d' (omega (arith, ints)) k)

-- a quotient is no larger than what is divided
over_right : (c v a : ℤ) → pos 0 <ℤ c → a ≤ℤ (v *ℤ c) → (pos 0 ≤ℤ v) ⊎ (a ≤ℤ v)
over_right c (pos n) a h k = inl (omega (arith, ints))
over_right c (negsuc n) a h k = let m = mul_down n (pos 1) c (omega (arith, ints)) in inr (omega (arith, ints))

under_right : (c v b : ℤ) → pos 0 <ℤ c → (v *ℤ c) ≤ℤ b → (v ≤ℤ pos 0) ⊎ (v ≤ℤ b)
under_right c (pos n) b h k = let m = mul_up n (pos 1) c (omega (arith, ints)) in inr (omega (arith, ints))
under_right c (negsuc n) b h k = inl (omega (arith, ints))

over_left : (c v a : ℤ) → c <ℤ pos 0 → a ≤ℤ (v *ℤ c) → (v ≤ℤ pos 0) ⊎ (v ≤ℤ neg_ℤ a)
over_left c (pos n) a h k = let m = mul_up n c (negsuc 0) (omega (arith, ints)) in inr (omega (arith, ints))
over_left c (negsuc n) a h k = inl (omega (arith, ints))

under_left : (c v b : ℤ) → c <ℤ pos 0 → (v *ℤ c) ≤ℤ b → (pos 0 ≤ℤ v) ⊎ (neg_ℤ b ≤ℤ v)
under_left c (pos n) b h k = inl (omega (arith, ints))
under_left c (negsuc n) b h k = let m = mul_down n c (negsuc 0) (omega (arith, ints)) in inr (omega (arith, ints))

low_by : (v a e : ℤ) → (pos 0 ≤ℤ v) ⊎ (a ≤ℤ v) → neg_ℤ e ≤ℤ a → pos 0 ≤ℤ e → neg_ℤ e ≤ℤ v
low_by v a e (inl p) h k = omega (arith, ints)
low_by v a e (inr p) h k = omega (arith, ints)

high_by : (v b e : ℤ) → (v ≤ℤ pos 0) ⊎ (v ≤ℤ b) → b ≤ℤ e → pos 0 ≤ℤ e → v ≤ℤ e
high_by v b e (inl p) h k = omega (arith, ints)
high_by v b e (inr p) h k = omega (arith, ints)

bounded_by : (a b c d v e : ℤ) → OneSign c d → Over a c d v → Under b c d v → neg_ℤ e ≤ℤ a → b ≤ℤ e → pos 0 ≤ℤ e → (neg_ℤ e ≤ℤ v) × (v ≤ℤ e)
bounded_by a b c d v e (inl (p, q)) o u h k z = (low o, high u)
  where
    low : Over a c d v → neg_ℤ e ≤ℤ v
    low (inl x) = low_by v a e (over_right c v a p x) h z
    low (inr x) = low_by v a e (over_right d v a q x) h z

    high : Under b c d v → v ≤ℤ e
    high (inl x) = high_by v b e (under_right c v b p x) k z
    high (inr x) = high_by v b e (under_right d v b q x) k z
bounded_by a b c d v e (inr (p, q)) o u h k z = (low u, high o)
  where
    low : Under b c d v → neg_ℤ e ≤ℤ v
    low (inl x) = low_by v (neg_ℤ b) e (under_left c v b p x) (omega (arith, ints)) z
    low (inr x) = low_by v (neg_ℤ b) e (under_left d v b q x) (omega (arith, ints)) z

    high : Over a c d v → v ≤ℤ e
    high (inl x) = high_by v (neg_ℤ a) e (over_left c v a p x) (omega (arith, ints)) z
    high (inr x) = high_by v (neg_ℤ a) e (over_left d v a q x) (omega (arith, ints)) z

-- ---- the cases of a weak division
size_bounds : (a b : ℤ) → (neg_ℤ (size a b) ≤ℤ a) × (a ≤ℤ size a b) × (neg_ℤ (size a b) ≤ℤ b) × (b ≤ℤ size a b) × (pos 0 ≤ℤ size a b)
size_bounds a b = (omega (arith, ints, clamps), omega (arith, ints, clamps), omega (arith, ints, clamps), omega (arith, ints, clamps), omega (arith, ints, clamps))

size_mono : (a b a' b' : ℤ) → a' ≤ℤ a → a ≤ℤ b → b ≤ℤ b' → size a b ≤ℤ size a' b'
size_mono a b a' b' h i j = omega (arith, ints, clamps)

up_tells : (c : ℤ) → pos 0 ≤ℤ c → (pos 0 <ℤ up_from_zero c) × (c ≤ℤ up_from_zero c) × ((y : ℤ) → pos 0 <ℤ y → c ≤ℤ y → up_from_zero c ≤ℤ y)
up_tells c h = (grind (arith, ints, tests), grind (arith, ints, tests), λ y p q. grind (arith, ints, tests))

down_tells : (d : ℤ) → d ≤ℤ pos 0 → (down_from_zero d <ℤ pos 0) × (down_from_zero d ≤ℤ d) × ((y : ℤ) → y <ℤ pos 0 → y ≤ℤ d → y ≤ℤ down_from_zero d)
down_tells d h = (grind (arith, ints, tests), grind (arith, ints, tests), λ y p q. grind (arith, ints, tests))

-- 0 is not in both spans
abbrev pub NotBoth : ℤ → ℤ → ℤ → ℤ → Type 0
NotBoth a b c d = (between a b (pos 0) && between c d (pos 0)) ≡ false

pub data Case (a b c d : ℤ) : Type 0 where
  free : between a b (pos 0) ≡ true → between c d (pos 0) ≡ true → ((v : ℤ) → weakly_divides a b c d v ≡ true) → Case a b c d
  none : NotBoth a b c d → c ≡ pos 0 → d ≡ pos 0 → ((v : ℤ) → weakly_divides a b c d v ≡ false) → Case a b c d
  wide : NotBoth a b c d → c <ℤ pos 0 → pos 0 <ℤ d → ((v : ℤ) → weakly_divides a b c d v ≡ between (neg_ℤ (size a b)) (size a b) v) → Case a b c d
  right : NotBoth a b c d → pos 0 ≤ℤ c → pos 0 <ℤ d → ((v : ℤ) → weakly_divides a b c d v ≡ among_quotients a b (up_from_zero c) d v) → Case a b c d
  left : NotBoth a b c d → c <ℤ pos 0 → d ≤ℤ pos 0 → ((v : ℤ) → weakly_divides a b c d v ≡ among_quotients a b c (down_from_zero d) v) → Case a b c d

pub the_case : (a b c d : ℤ) → c ≤ℤ d → Case a b c d
unfolding weakly_divides
the_case a b c d h = go (between a b (pos 0) && between c d (pos 0)) (eq_z c (pos 0) && eq_z d (pos 0)) (lt_z c (pos 0) && lt_z (pos 0) d) refl refl refl
  where
    go : (x y z : Bool) → (between a b (pos 0) && between c d (pos 0)) ≡ x → (eq_z c (pos 0) && eq_z d (pos 0)) ≡ y → (lt_z c (pos 0) && lt_z (pos 0) d) ≡ z → Case a b c d
    go true y z e f g = let u = both_true (between a b (pos 0)) (between c d (pos 0)) e in free u.0 u.1 (λ v. rw e refl)
    go false true z e f g = none e (grind (arith, tests)) (grind (arith, tests)) (λ v. rw (e, f) refl)
    go false false true e f g = wide e (grind (arith, ints, lt_z_tells)) (grind (arith, ints, lt_z_tells)) (λ v. rw (e, f, g) refl)
    go false false false e f g = side (le_z_tells (pos 0) c)
      where
        side : ((le_z (pos 0) c ≡ true) × (pos 0 ≤ℤ c)) ⊎ ((le_z (pos 0) c ≡ false) × (c <ℤ pos 0)) → Case a b c d
        side (inl (p, q)) =
            let k : pos 0 <ℤ d = grind (arith, ints, tests, lt_z_tells) in
            let n : eq_z d (pos 0) ≡ false = grind (arith, ints, tests) in
            right e q k (λ v. rw (e, f, g, n) refl)
        side (inr (p, q)) =
            let k : d ≤ℤ pos 0 = grind (arith, ints, tests, lt_z_tells) in
            let n : eq_z c (pos 0) ≡ false = grind (arith, ints, tests) in
            left e q k (λ v. rw (e, f, g, n) refl)

-- ---- wider spans divide more weakly
zero_wider : (a b c d a' b' c' d' : ℤ) → a' ≤ℤ a → b ≤ℤ b' → c' ≤ℤ c → d ≤ℤ d' → between a b (pos 0) ≡ true → between c d (pos 0) ≡ true → NotBoth a' b' c' d' → ⊥
zero_wider a b c d a' b' c' d' h i j k p q n =
    let x = between_is a b (pos 0) p in
    let y = between_is c d (pos 0) q in
    let u = is_between a' b' (pos 0) (omega (arith, ints)) (omega (arith, ints)) in
    let w = is_between c' d' (pos 0) (omega (arith, ints)) (omega (arith, ints)) in
    never (sym n ∙ true_both _ _ u w)

module _ (a b c d a' b' c' d' : ℤ) (ha : a' ≤ℤ a) (ab : a ≤ℤ b) (hb : b ≤ℤ b') (hc : c' ≤ℤ c) (cd : c ≤ℤ d) (hd : d ≤ℤ d') where
  wide_from : (x y v : ℤ) → OneSign x y → among_quotients a b x y v ≡ true → between (neg_ℤ (size a' b')) (size a' b') v ≡ true
  wide_from x y v s t =
      let o = among_out a b x y v s ab t in
      let z = size_bounds a b in
      let m = size_mono a b a' b' ha ab hb in
      let r = bounded_by a b x y v (size a' b') s o.0 o.1 (omega (arith, ints)) (omega (arith, ints)) (omega (arith, ints)) in
      is_between (neg_ℤ (size a' b')) (size a' b') v r.0 r.1

  side_from : (x y x' y' v : ℤ) → OneSign x y → OneSign x' y' → x' ≤ℤ x → x ≤ℤ y → y ≤ℤ y' → among_quotients a b x y v ≡ true → among_quotients a' b' x' y' v ≡ true
  side_from x y x' y' v s s' p q r t =
      let o = among_out a b x y v s ab t in
      among_in a' b' x' y' v s' (over_mono a a' x x' y y' v ha p q r o.0) (under_mono b b' x x' y y' v hb p q r o.1)

  pub weak_mono : (v : ℤ) → weakly_divides a b c d v ≡ true → weakly_divides a' b' c' d' v ≡ true
  weak_mono v t = go (the_case a b c d cd) (the_case a' b' c' d' (omega (arith, ints)))
    where
      go : Case a b c d → Case a' b' c' d' → weakly_divides a' b' c' d' v ≡ true
      go x (free p q f) = f v
      go (free p q f) (none n i j f') = absurd (zero_wider a b c d a' b' c' d' ha hb hc hd p q n)
      go (none m i j f) (none n i' j' f') = never (sym (f v) ∙ t)
      go (wide m i j f) (none n i' j' f') = absurd (omega (arith, ints))
      go (right m i j f) (none n i' j' f') = absurd (omega (arith, ints))
      go (left m i j f) (none n i' j' f') = absurd (omega (arith, ints))
      go (free p q f) (wide n i j f') = absurd (zero_wider a b c d a' b' c' d' ha hb hc hd p q n)
      go (none m i j f) (wide n i' j' f') = never (sym (f v) ∙ t)
      go (wide m i j f) (wide n i' j' f') =
          let r = between_is (neg_ℤ (size a b)) (size a b) v (sym (f v) ∙ t) in
          let k = size_mono a b a' b' ha ab hb in
          f' v ∙ is_between (neg_ℤ (size a' b')) (size a' b') v (omega (arith, ints)) (omega (arith, ints))
      go (right m i j f) (wide n i' j' f') = f' v ∙ wide_from (up_from_zero c) d v (inl ((up_tells c i).0, j)) (sym (f v) ∙ t)
      go (left m i j f) (wide n i' j' f') = f' v ∙ wide_from c (down_from_zero d) v (inr (i, (down_tells d j).0)) (sym (f v) ∙ t)
      go (free p q f) (right n i j f') = absurd (zero_wider a b c d a' b' c' d' ha hb hc hd p q n)
      go (none m i j f) (right n i' j' f') = never (sym (f v) ∙ t)
      go (wide m i j f) (right n i' j' f') = absurd (omega (arith, ints))
      go (right m i j f) (right n i' j' f') =
          let u = up_tells c i in
          let u' = up_tells c' i' in
          f' v ∙ side_from (up_from_zero c) d (up_from_zero c') d' v (inl (u.0, j)) (inl (u'.0, j')) (u'.2 (up_from_zero c) u.0 (le_after c' c _ hc u.1)) (u.2 d j cd) hd (sym (f v) ∙ t)
      go (left m i j f) (right n i' j' f') = absurd (omega (arith, ints))
      go (free p q f) (left n i j f') = absurd (zero_wider a b c d a' b' c' d' ha hb hc hd p q n)
      go (none m i j f) (left n i' j' f') = never (sym (f v) ∙ t)
      go (wide m i j f) (left n i' j' f') = absurd (omega (arith, ints))
      go (right m i j f) (left n i' j' f') = absurd (omega (arith, ints))
      go (left m i j f) (left n i' j' f') =
          let u = down_tells d j in
          let u' = down_tells d' j' in
          f' v ∙ side_from c (down_from_zero d) c' (down_from_zero d') v (inr (i, u.0)) (inr (i', u'.0)) hc (u.2 c i cd) (u'.2 (down_from_zero d) u.0 (le_after _ d d' u.1 hd)) (sym (f v) ∙ t)

-- a product divides
pub weak_self : (x y z : ℤ) → x *ℤ y ≡ z → weakly_divides z z y y x ≡ true
weak_self x y z e = go (the_case z z y y (omega (arith, ints)))
  where
    go : Case z z y y → weakly_divides z z y y x ≡ true
    go (free p q f) = f x
    go (none n i j f) = absurd (zeros (sym e ∙ ap (λ w. x *ℤ w) i ∙ *ℤ-zero x) i)
      where
        zeros : z ≡ pos 0 → y ≡ pos 0 → ⊥
        zeros p q = never (sym n ∙ true_both _ _ (is_between z z (pos 0) (omega (arith, ints)) (omega (arith, ints))) (is_between y y (pos 0) (omega (arith, ints)) (omega (arith, ints))))
    go (wide n i j f) = absurd (omega (arith, ints))
    go (right n i j f) = f x ∙ among_in z z (up_from_zero y) y x (inl ((up_tells y i).0, j)) (inr (same_le _ _ (sym e))) (inr (same_le _ _ e))
    go (left n i j f) = f x ∙ among_in z z y (down_from_zero y) x (inr (i, (down_tells y j).0)) (inl (same_le _ _ (sym e))) (inl (same_le _ _ e))

-- ---- the numbers of a weak division have no gap
times_right : (c x v : ℤ) → pos 0 <ℤ c → x ≤ℤ v → (x *ℤ c) ≤ℤ (v *ℤ c)
times_right (pos n) x v h k = let m = mul_up n x v k in subst₂ ◌≤ℤ◌ (*ℤ_comm (pos n) x) (*ℤ_comm (pos n) v) m
times_right (negsuc n) x v h k = absurd (omega (arith, ints))

times_left : (c x v : ℤ) → c <ℤ pos 0 → x ≤ℤ v → (v *ℤ c) ≤ℤ (x *ℤ c)
times_left (pos n) x v h k = absurd (omega (arith, ints))
times_left (negsuc n) x v h k = let m = mul_down n x v k in subst₂ ◌≤ℤ◌ (*ℤ_comm (negsuc n) v) (*ℤ_comm (negsuc n) x) m

pub weak_gapless : (a b c d : ℤ) → a ≤ℤ b → c ≤ℤ d → Gapless (weakly_divides a b c d)
unfolding Gapless
weak_gapless a b c d ab cd x y v p q h k = go (the_case a b c d cd)
  where
    go : Case a b c d → weakly_divides a b c d v ≡ true
    go (free _ _ f) = f v
    go (none _ _ _ f) = never (sym (f x) ∙ p)
    go (wide _ _ _ f) =
        let r = between_is (neg_ℤ (size a b)) (size a b) x (sym (f x) ∙ p) in
        let s = between_is (neg_ℤ (size a b)) (size a b) y (sym (f y) ∙ q) in
        f v ∙ is_between (neg_ℤ (size a b)) (size a b) v (omega (arith, ints)) (omega (arith, ints))
    go (right _ i j f) = f v ∙ among_in a b (up_from_zero c) d v sign (over (among_out a b (up_from_zero c) d x sign ab (sym (f x) ∙ p)).0) (under (among_out a b (up_from_zero c) d y sign ab (sym (f y) ∙ q)).1)
      where
        sign : OneSign (up_from_zero c) d
        sign = inl ((up_tells c i).0, j)

        over : Over a (up_from_zero c) d x → Over a (up_from_zero c) d v
        over (inl o) = inl (le_after _ _ _ o (times_right (up_from_zero c) x v (up_tells c i).0 h))
        over (inr o) = inr (le_after _ _ _ o (times_right d x v j h))

        under : Under b (up_from_zero c) d y → Under b (up_from_zero c) d v
        under (inl o) = inl (le_after _ _ _ (times_right (up_from_zero c) v y (up_tells c i).0 k) o)
        under (inr o) = inr (le_after _ _ _ (times_right d v y j k) o)
    go (left _ i j f) = f v ∙ among_in a b c (down_from_zero d) v sign (over (among_out a b c (down_from_zero d) y sign ab (sym (f y) ∙ q)).0) (under (among_out a b c (down_from_zero d) x sign ab (sym (f x) ∙ p)).1)
      where
        sign : OneSign c (down_from_zero d)
        sign = inr (i, (down_tells d j).0)

        over : Over a c (down_from_zero d) y → Over a c (down_from_zero d) v
        over (inl o) = inl (le_after _ _ _ o (times_left c v y i k))
        over (inr o) = inr (le_after _ _ _ o (times_left (down_from_zero d) v y (down_tells d j).0 k))

        under : Under b c (down_from_zero d) x → Under b c (down_from_zero d) v
        under (inl o) = inl (le_after _ _ _ (times_left c x v i h) o)
        under (inr o) = inr (le_after _ _ _ (times_left (down_from_zero d) x v (down_tells d j).0 h) o)
