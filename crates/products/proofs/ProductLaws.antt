-- The laws of the product rule.
use Rattle.std.proofs.Common.{◌≡◌, ℕ, suc, ◌<◌, ◌≤◌, min, max, Bool, true, false, eqb, ◌⊎◌, List, length, ℤ, ◌*ℤ◌, ◌≤ℤ◌, None, filter, sym, refl, ◌∙◌, subst, inl, inr, arith}
use lib.IntN.{*ℤ_comm}
use Rattle.std.proofs.lemmas.Int.{ints}
use Rattle.std.proofs.lemmas.Bool.Decides.{nat_tests, eqb_tells}
use Rattle.windows.specs.Sets.{eq_z, In, Within, between, least_by, greatest_by, least, greatest}
use Rattle.windows.specs.Kinds.{Of, spans}
use Rattle.windows.specs.SetLaws.{tests, between_is, is_between, within_kept, in_kept, kept_passes, rising_kept, least_bounds, greatest_bounds, least_reached, greatest_reached, least_within, greatest_within, Gapless, hull_kept}
use Rattle.rulebook.specs.Tables.{Table, Placing, window, place, Inside, Places, Every}
use Rattle.rulebook.specs.Rules.{Agree, Lawful}
use Rattle.rules.specs.Pointwise.{rule_of}
use Rattle.rules.proofs.PointwiseLaws.{lawful}
use Rattle.products.specs.Products.{least_product, greatest_product, multiplied, weakly_divides, divided, product_new, product_reads, product_allows, product_rule, all_below, Apart, product_asks}
use Rattle.products.proofs.WeakDivision.{le_after, weak_mono, weak_self, weak_gapless}

-- ---- the least and the greatest product
pub least_product_bounds : (s t : List ℤ) (x y : ℤ) → In x s → In y t → least_product s t ≤ℤ (x *ℤ y)
least_product_bounds s t x y i j = le_after _ _ _ (least_bounds (λ z. least_by (λ w. z *ℤ w) t) s x i) (least_bounds (λ w. x *ℤ w) t y j)

pub greatest_product_bounds : (s t : List ℤ) (x y : ℤ) → In x s → In y t → (x *ℤ y) ≤ℤ greatest_product s t
greatest_product_bounds s t x y i j = le_after _ _ _ (greatest_bounds (λ w. x *ℤ w) t y j) (greatest_bounds (λ z. greatest_by (λ w. z *ℤ w) t) s x i)

pub least_product_reached : (s t : List ℤ) → 0 < length s → 0 < length t → (x : ℤ) × (y : ℤ) × In x s × In y t × (least_product s t ≡ x *ℤ y)
least_product_reached s t h k =
    let a = least_reached (λ z. least_by (λ w. z *ℤ w) t) s h in
    let b = least_reached (λ w. a.0 *ℤ w) t k in
    (a.0, b.0, a.1, b.1, a.2 ∙ b.2)

pub greatest_product_reached : (s t : List ℤ) → 0 < length s → 0 < length t → (x : ℤ) × (y : ℤ) × In x s × In y t × (greatest_product s t ≡ x *ℤ y)
greatest_product_reached s t h k =
    let a = greatest_reached (λ z. greatest_by (λ w. z *ℤ w) t) s h in
    let b = greatest_reached (λ w. a.0 *ℤ w) t k in
    (a.0, b.0, a.1, b.1, a.2 ∙ b.2)

least_product_mono : (s t s' t' : List ℤ) → 0 < length s → 0 < length t → Within s s' → Within t t' → least_product s' t' ≤ℤ least_product s t
least_product_mono s t s' t' h k a b = let r = least_product_reached s t h k in subst (λ z. least_product s' t' ≤ℤ z) (sym r.4) (least_product_bounds s' t' r.0 r.1 (a r.0 r.2) (b r.1 r.3))

greatest_product_mono : (s t s' t' : List ℤ) → 0 < length s → 0 < length t → Within s s' → Within t t' → greatest_product s t ≤ℤ greatest_product s' t'
greatest_product_mono s t s' t' h k a b = let r = greatest_product_reached s t h k in subst (λ z. z ≤ℤ greatest_product s' t') (sym r.4) (greatest_product_bounds s' t' r.0 r.1 (a r.0 r.2) (b r.1 r.3))

ends_in_order : (s : List ℤ) → 0 < length s → least s ≤ℤ greatest s
ends_in_order s h = let r = least_reached (λ y. y) s h in let g = greatest_bounds (λ y. y) s r.0 r.1 in subst (λ z. z ≤ℤ greatest s) (sym r.2) g

-- ---- divided windows
divided_mono : (s r q s' r' q' : List ℤ) → 0 < length r → 0 < length q → Within s s' → Within r r' → Within q q' → Within (divided s r q) (divided s' r' q')
unfolding divided
divided_mono s r q s' r' q' h k a b c v i = in_kept (weakly_divides (least r') (greatest r') (least q') (greatest q')) s' v (a v (within_kept (weakly_divides (least r) (greatest r) (least q) (greatest q)) s v i)) (weak_mono (least r) (greatest r) (least q) (greatest q) (least r') (greatest r') (least q') (greatest q') (least_within (λ y. y) r r' b h) (ends_in_order r h) (greatest_within (λ y. y) r r' b h) (least_within (λ y. y) q q' c k) (ends_in_order q k) (greatest_within (λ y. y) q q' c k) v (kept_passes (weakly_divides (least r) (greatest r) (least q) (greatest q)) s v i))

divided_keeps : (s r q : List ℤ) (x y z : ℤ) → In x s → In y q → In z r → x *ℤ y ≡ z → In x (divided s r q)
unfolding divided
divided_keeps s r q x y z i j k e = in_kept (weakly_divides (least r) (greatest r) (least q) (greatest q)) s x i (weak_mono z z y y (least r) (greatest r) (least q) (greatest q) (least_bounds (λ w. w) r z k) (omega (arith, ints)) (greatest_bounds (λ w. w) r z k) (least_bounds (λ w. w) q y j) (omega (arith, ints)) (greatest_bounds (λ w. w) q y j) x (weak_self x y z e))

divided_within : (s r q : List ℤ) → Within (divided s r q) s
unfolding divided
divided_within s r q = within_kept (weakly_divides (least r) (greatest r) (least q) (greatest q)) s

-- ---- multiplied windows
multiplied_mono : (u s t u' s' t' : List ℤ) → 0 < length s → 0 < length t → Within u u' → Within s s' → Within t t' → Within (multiplied u s t) (multiplied u' s' t')
unfolding multiplied
multiplied_mono u s t u' s' t' h k a b c v i =
    let m = between_is (least_product s t) (greatest_product s t) v (kept_passes (between (least_product s t) (greatest_product s t)) u v i) in
    let l = le_after _ _ _ (least_product_mono s t s' t' h k b c) m.0 in
    let g = le_after _ _ _ m.1 (greatest_product_mono s t s' t' h k b c) in
    in_kept (between (least_product s' t') (greatest_product s' t')) u' v (a v (within_kept (between (least_product s t) (greatest_product s t)) u v i)) (is_between _ _ v l g)

multiplied_keeps : (u s t : List ℤ) (x y z : ℤ) → In x s → In y t → In z u → x *ℤ y ≡ z → In z (multiplied u s t)
unfolding multiplied
multiplied_keeps u s t x y z i j k e = in_kept (between (least_product s t) (greatest_product s t)) u z k (is_between _ _ z (subst (λ n. least_product s t ≤ℤ n) e (least_product_bounds s t x y i j)) (subst (λ n. n ≤ℤ greatest_product s t) e (greatest_product_bounds s t x y i j)))

multiplied_within : (u s t : List ℤ) → Within (multiplied u s t) u
unfolding multiplied
multiplied_within u s t = within_kept (between (least_product s t) (greatest_product s t)) u

-- ---- both are spans
between_gapless : (l h : ℤ) → Gapless (between l h)
unfolding Gapless
between_gapless l h x y v p q i j = let a = between_is l h x p in let b = between_is l h y q in is_between l h v (omega (arith, ints)) (omega (arith, ints))

kept_kind : (t : ℤ → Bool) (s : List ℤ) → Gapless t → Of spans s → 0 < length (filter t s) → Of spans (filter t s)
kept_kind t s g o n = record { rising = rising_kept t s o.rising; some = n; closed = hull_kept t s o.rising o.closed g; bounded = λ v i. o.bounded v (within_kept t s v i) }

multiplied_kind : (u s t : List ℤ) → Of spans u → 0 < length (multiplied u s t) → Of spans (multiplied u s t)
unfolding multiplied
multiplied_kind u s t o n = kept_kind (between (least_product s t) (greatest_product s t)) u (between_gapless (least_product s t) (greatest_product s t)) o n

divided_kind : (s r q : List ℤ) → Of spans s → Of spans r → Of spans q → 0 < length (divided s r q) → Of spans (divided s r q)
unfolding divided
divided_kind s r q o p u n = kept_kind (weakly_divides (least r) (greatest r) (least q) (greatest q)) s (weak_gapless (least r) (greatest r) (least q) (greatest q) (ends_in_order r p.some) (ends_in_order q u.some)) o n

-- ---- the rule
pub of_same : (f : List ℤ → List ℤ → List ℤ → List ℤ) {s s' t t' u u' : List ℤ} → s ≡ s' → t ≡ t' → u ≡ u' → f s t u ≡ f s' t' u'
of_same f e g i = cc

abbrev Cases4 : ℕ → ℕ → ℕ → ℕ → Type 0
Cases4 p q r j = ((eqb r j ≡ true) × (r ≡ j)) ⊎ (((eqb r j ≡ false) × (eqb p j ≡ true) × (p ≡ j)) ⊎ (((eqb r j ≡ false) × (eqb p j ≡ false) × (eqb q j ≡ true) × (q ≡ j)) ⊎ ((eqb r j ≡ false) × (eqb p j ≡ false) × (eqb q j ≡ false))))

cases4 : (p q r j : ℕ) → Cases4 p q r j
cases4 p q r j = go (eqb_tells r j) (eqb_tells p j) (eqb_tells q j)
  where
    go : ((eqb r j ≡ true) × (r ≡ j)) ⊎ ((eqb r j ≡ false) × (r ≡ j → ⊥)) → ((eqb p j ≡ true) × (p ≡ j)) ⊎ ((eqb p j ≡ false) × (p ≡ j → ⊥)) → ((eqb q j ≡ true) × (q ≡ j)) ⊎ ((eqb q j ≡ false) × (q ≡ j → ⊥)) → Cases4 p q r j
    go (inl a) b c = inl a
    go (inr a) (inl b) c = inr (inl (a.0, b.0, b.1))
    go (inr a) (inr b) (inl c) = inr (inr (inl (a.0, b.0, c.0, c.1)))
    go (inr a) (inr b) (inr c) = inr (inr (inr (a.0, b.0, c.0)))

module _ (p q r : ℕ) where
  pub at_r : (T : Table) (j : ℕ) → eqb r j ≡ true → product_new p q r T j ≡ multiplied (window T r) (window T p) (window T q)
  unfolding product_new
  at_r T j e = rw e refl

  pub at_p : (T : Table) (j : ℕ) → eqb r j ≡ false → eqb p j ≡ true → product_new p q r T j ≡ divided (window T p) (window T r) (window T q)
  unfolding product_new
  at_p T j e f = rw (e, f) refl

  pub at_q : (T : Table) (j : ℕ) → eqb r j ≡ false → eqb p j ≡ false → eqb q j ≡ true → product_new p q r T j ≡ divided (window T q) (window T r) (window T p)
  unfolding product_new
  at_q T j e f g = rw (e, f, g) refl

  elsewhere : (T : Table) (j : ℕ) → eqb r j ≡ false → eqb p j ≡ false → eqb q j ≡ false → product_new p q r T j ≡ window T j
  unfolding product_new
  elsewhere T j e f g = rw (e, f, g) refl

  pub product_covers : (j : ℕ) → product_reads p q r j ≡ true → j < max (suc p) (max (suc q) (suc r))
  product_covers j h = grind (arith, nat_tests)

  product_smaller : (T : Table) (j : ℕ) → Within (product_new p q r T j) (window T j)
  product_smaller T j v i = go (cases4 p q r j)
    where
      go : Cases4 p q r j → In v (window T j)
      go (inl (x, y)) = subst (λ n. In v (window T n)) y (multiplied_within (window T r) (window T p) (window T q) v (subst (In v) (at_r T j x) i))
      go (inr (inl (x, y, z))) = subst (λ n. In v (window T n)) z (divided_within (window T p) (window T r) (window T q) v (subst (In v) (at_p T j x y) i))
      go (inr (inr (inl (x, y, z, w)))) = subst (λ n. In v (window T n)) w (divided_within (window T q) (window T r) (window T p) v (subst (In v) (at_q T j x y z) i))
      go (inr (inr (inr (x, y, z)))) = subst (In v) (elsewhere T j x y z) i

  product_kinds : (T : Table) → Every (Of spans) T → max (suc p) (max (suc q) (suc r)) ≤ length T → (j : ℕ) → j < length T → 0 < length (product_new p q r T j) → Of spans (product_new p q r T j)
  product_kinds T e l j h n = go (cases4 p q r j)
    where
      a : Of spans (window T p)
      a = e p (omega arith)

      b : Of spans (window T q)
      b = e q (omega arith)

      c : Of spans (window T r)
      c = e r (omega arith)

      go : Cases4 p q r j → Of spans (product_new p q r T j)
      go (inl (x, y)) = subst (Of spans) (sym (at_r T j x)) (multiplied_kind (window T r) (window T p) (window T q) c (subst (λ s. 0 < length s) (at_r T j x) n))
      go (inr (inl (x, y, z))) = subst (Of spans) (sym (at_p T j x y)) (divided_kind (window T p) (window T r) (window T q) a c b (subst (λ s. 0 < length s) (at_p T j x y) n))
      go (inr (inr (inl (x, y, z, w)))) = subst (Of spans) (sym (at_q T j x y z)) (divided_kind (window T q) (window T r) (window T p) b c a (subst (λ s. 0 < length s) (at_q T j x y z) n))
      go (inr (inr (inr (x, y, z)))) = subst (Of spans) (sym (elsewhere T j x y z)) (e j h)

  pub product_unread : (T : Table) (j : ℕ) → product_reads p q r j ≡ false → product_new p q r T j ≡ window T j
  product_unread T j h = elsewhere T j (grind arith) (grind arith) (grind arith)

  product_local : (T U : Table) → Agree (product_reads p q r) T U → (j : ℕ) → product_reads p q r j ≡ true → product_new p q r T j ≡ product_new p q r U j
  product_local T U a j h = go (cases4 p q r j)
    where
      x : window T p ≡ window U p
      x = a p (grind (arith, nat_tests))

      y : window T q ≡ window U q
      y = a q (grind (arith, nat_tests))

      z : window T r ≡ window U r
      z = a r (grind (arith, nat_tests))

      go : Cases4 p q r j → product_new p q r T j ≡ product_new p q r U j
      go (inl (u, v)) = at_r T j u ∙ of_same multiplied z x y ∙ sym (at_r U j u)
      go (inr (inl (u, v, w))) = at_p T j u v ∙ of_same divided x z y ∙ sym (at_p U j u v)
      go (inr (inr (inl (u, v, w, t)))) = at_q T j u v w ∙ of_same divided y z x ∙ sym (at_q U j u v w)
      go (inr (inr (inr (u, v, w)))) = elsewhere T j u v w ∙ a j h ∙ sym (elsewhere U j u v w)

  product_mono : (T U : Table) → Every (Of spans) T → Inside T U → max (suc p) (max (suc q) (suc r)) ≤ length T → (j : ℕ) → Within (product_new p q r T j) (product_new p q r U j)
  product_mono T U e i l j v n = go (cases4 p q r j)
    where
      a : 0 < length (window T p)
      a = (e p (omega arith)).some

      b : 0 < length (window T q)
      b = (e q (omega arith)).some

      c : 0 < length (window T r)
      c = (e r (omega arith)).some

      go : Cases4 p q r j → In v (product_new p q r U j)
      go (inl (x, y)) = subst (In v) (sym (at_r U j x)) (multiplied_mono (window T r) (window T p) (window T q) (window U r) (window U p) (window U q) a b (i.each r) (i.each p) (i.each q) v (subst (In v) (at_r T j x) n))
      go (inr (inl (x, y, z))) = subst (In v) (sym (at_p U j x y)) (divided_mono (window T p) (window T r) (window T q) (window U p) (window U r) (window U q) c b (i.each p) (i.each r) (i.each q) v (subst (In v) (at_p T j x y) n))
      go (inr (inr (inl (x, y, z, w)))) = subst (In v) (sym (at_q U j x y z)) (divided_mono (window T q) (window T r) (window T p) (window U q) (window U r) (window U p) c a (i.each q) (i.each r) (i.each p) v (subst (In v) (at_q T j x y z) n))
      go (inr (inr (inr (x, y, z)))) = subst (In v) (sym (elsewhere U j x y z)) (i.each j v (subst (In v) (elsewhere T j x y z) n))

  product_keeps : (T : Table) (P : Placing) → Places P T → product_allows p q r P ≡ true → max (suc p) (max (suc q) (suc r)) ≤ length T → (j : ℕ) → j < length T → In (place P j) (product_new p q r T j)
  product_keeps T P m h l j k = go (cases4 p q r j)
    where
      same : (x y : ℤ) → eq_z x y ≡ true → x ≡ y
      same x y e = grind (arith, tests)

      x : In (place P p) (window T p)
      x = m.each p (omega arith)

      y : In (place P q) (window T q)
      y = m.each q (omega arith)

      z : In (place P r) (window T r)
      z = m.each r (omega arith)

      e : place P p *ℤ place P q ≡ place P r
      e = same (place P p *ℤ place P q) (place P r) h

      go : Cases4 p q r j → In (place P j) (product_new p q r T j)
      go (inl (u, w)) = subst (λ n. In (place P n) (product_new p q r T j)) w (subst (In (place P r)) (sym (at_r T j u)) (multiplied_keeps (window T r) (window T p) (window T q) (place P p) (place P q) (place P r) x y z e))
      go (inr (inl (u, v, w))) = subst (λ n. In (place P n) (product_new p q r T j)) w (subst (In (place P p)) (sym (at_p T j u v)) (divided_keeps (window T p) (window T r) (window T q) (place P p) (place P q) (place P r) x y z e))
      go (inr (inr (inl (u, v, t, w)))) = subst (λ n. In (place P n) (product_new p q r T j)) w (subst (In (place P q)) (sym (at_q T j u v t)) (divided_keeps (window T q) (window T r) (window T p) (place P q) (place P p) (place P r) y x z (*ℤ_comm (place P q) (place P p) ∙ e)))
      go (inr (inr (inr (u, v, t)))) = subst (In (place P j)) (sym (elsewhere T j u v t)) (m.each j k)

  pub product_lawful : Lawful (Of spans) (rule_of (product_rule p q r))
  product_lawful = lawful (Of spans) (λ s o. o.some) (product_rule p q r) (record { covers = product_covers; smaller = λ T e l j h. product_smaller T j; kinds = product_kinds; unread = product_unread; local = product_local; mono = λ T U e f i l j h. product_mono T U e i l j; keeps = λ T P e m h l j k. product_keeps T P m h l j k })

-- ---- what a book of products owes
below_read : (n p q r j : ℕ) → all_below n p q r ≡ true → product_reads p q r j ≡ true → j < n
below_read n p q r j b h = grind (arith, nat_tests)

-- a product of windows below 64 reads only those
pub product_near : (p q r j : ℕ) → Apart p q r → product_reads p q r j ≡ true → j < 64
product_near p q r j a h = below_read 64 p q r j a.0 h

-- an accepted product reads only windows of the table
pub product_within : (p q r n j : ℕ) → product_asks p q r n ≡ None → product_reads p q r j ≡ true → j < n
product_within p q r n j a h = go (all_below (min n 64) p q r) refl
  where
    refused : all_below (min n 64) p q r ≡ false → ◌≡◌ {A = ℕ} 0 1
    refused e = let y = rw e at a in cc

    go : (t : Bool) → all_below (min n 64) p q r ≡ t → j < n
    go true e = let b = below_read (min n 64) p q r j e h in omega arith
    go false e = let x : ◌≡◌ {A = ℕ} 0 1 = refused e in absurd (omega arith)
