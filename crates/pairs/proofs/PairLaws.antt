-- The laws of the rules on two windows, for every kind, and the new windows that the code writes.
use Rattle.std.proofs.Common.{◌≡◌, ℕ, suc, ◌<◌, ◌≤◌, max, Bool, true, false, not, ◌||◌, eqb, ◌⊎◌, List, [], ◌∷◌, length, ℤ, None, sym, refl, ap, ◌∙◌, subst, ap₂, inl, inr, arith}
use Rattle.std.proofs.lemmas.Bool.Decides.{nat_tests, eqb_tells}
use Rattle.windows.specs.Sets.{eq_z, In, Within, Rising, meet}
use Rattle.windows.specs.Kinds.{Kind, Of, Proper}
use Rattle.windows.specs.SetLaws.{tests, never, in_here, within_both}
use Rattle.windows.proofs.KindLaws.{in_meet, meet_in, meet_of, but_within, but_kind, but_mono, but_keeps}
use Rattle.rulebook.specs.Tables.{Table, Placing, window, place, filled, Inside, Places, Every}
use Rattle.rulebook.specs.Rules.{Agree, Lawful}
use Rattle.rulebook.specs.Answers.{outcome}
use Rattle.rules.specs.Pointwise.{rule_of, Entry, written}
use Rattle.rules.proofs.PointwiseLaws.{lawful}
use Rattle.rules.proofs.WritingLaws.{written_made, window_inside, outcome_none, written_none_is, some_filled}
use Rattle.pairs.specs.Pairs.{Apart, pair_reads, pair_new, pair_rule, pair_entries, lose_sole, differ_rule, same_rule, pair_asks}

-- ---- what the two new windows owe
pub record PairLaws (k : Kind) (f g : List ℤ → List ℤ → List ℤ) (allows : ℤ → ℤ → Bool) : Type 0 where
  pub within_f : (s t : List ℤ) → Of k s → Of k t → Within (f s t) s
  pub within_g : (s t : List ℤ) → Of k s → Of k t → Within (g s t) t
  pub kind_f : (s t : List ℤ) → Of k s → Of k t → 0 < length (f s t) → Of k (f s t)
  pub kind_g : (s t : List ℤ) → Of k s → Of k t → 0 < length (g s t) → Of k (g s t)
  pub mono_f : (s t s' t' : List ℤ) → Of k s → Of k t → Of k s' → Of k t' → Within s s' → Within t t' → Within (f s t) (f s' t')
  pub mono_g : (s t s' t' : List ℤ) → Of k s → Of k t → Of k s' → Of k t' → Within s s' → Within t t' → Within (g s t) (g s' t')
  pub keeps_f : (s t : List ℤ) (v w : ℤ) → Of k s → Of k t → In v s → In w t → allows v w ≡ true → In v (f s t)
  pub keeps_g : (s t : List ℤ) (v w : ℤ) → Of k s → Of k t → In v s → In w t → allows v w ≡ true → In w (g s t)

abbrev Cases3 : ℕ → ℕ → ℕ → Type 0
Cases3 p q j = ((eqb p j ≡ true) × (p ≡ j)) ⊎ (((eqb p j ≡ false) × (eqb q j ≡ true) × (q ≡ j)) ⊎ ((eqb p j ≡ false) × (eqb q j ≡ false)))

cases3 : (p q j : ℕ) → Cases3 p q j
cases3 p q j = let a = eqb_tells p j in let b = eqb_tells q j in grind arith

module _ (k : Kind) (f g : List ℤ → List ℤ → List ℤ) (allows : ℤ → ℤ → Bool) (laws : PairLaws k f g allows) (p q : ℕ) where
  at_p : (T : Table) (j : ℕ) → eqb p j ≡ true → pair_new f g p q T j ≡ f (window T p) (window T q)
  at_p T j e = rw e refl

  at_q : (T : Table) (j : ℕ) → eqb p j ≡ false → eqb q j ≡ true → pair_new f g p q T j ≡ g (window T p) (window T q)
  at_q T j e h = rw (e, h) refl

  elsewhere : (T : Table) (j : ℕ) → eqb p j ≡ false → eqb q j ≡ false → pair_new f g p q T j ≡ window T j
  elsewhere T j e h = rw (e, h) refl

  pair_covers : (j : ℕ) → pair_reads p q j ≡ true → j < max (suc p) (suc q)
  pair_covers j h = grind (arith, nat_tests)

  pair_smaller : (T : Table) → Every (Of k) T → max (suc p) (suc q) ≤ length T → (j : ℕ) → j < length T → Within (pair_new f g p q T j) (window T j)
  pair_smaller T e r j h v i = go (cases3 p q j)
    where
      a : Of k (window T p)
      a = e p (omega arith)

      b : Of k (window T q)
      b = e q (omega arith)

      go : Cases3 p q j → In v (window T j)
      go (inl (x, y)) = subst (λ n. In v (window T n)) y (laws.within_f (window T p) (window T q) a b v (subst (In v) (at_p T j x) i))
      go (inr (inl (x, y, z))) = subst (λ n. In v (window T n)) z (laws.within_g (window T p) (window T q) a b v (subst (In v) (at_q T j x y) i))
      go (inr (inr (x, y))) = subst (In v) (elsewhere T j x y) i

  pair_kinds : (T : Table) → Every (Of k) T → max (suc p) (suc q) ≤ length T → (j : ℕ) → j < length T → 0 < length (pair_new f g p q T j) → Of k (pair_new f g p q T j)
  pair_kinds T e r j h n = go (cases3 p q j)
    where
      a : Of k (window T p)
      a = e p (omega arith)

      b : Of k (window T q)
      b = e q (omega arith)

      go : Cases3 p q j → Of k (pair_new f g p q T j)
      go (inl (x, y)) = subst (Of k) (sym (at_p T j x)) (laws.kind_f (window T p) (window T q) a b (subst (λ s. 0 < length s) (at_p T j x) n))
      go (inr (inl (x, y, z))) = subst (Of k) (sym (at_q T j x y)) (laws.kind_g (window T p) (window T q) a b (subst (λ s. 0 < length s) (at_q T j x y) n))
      go (inr (inr (x, y))) = subst (Of k) (sym (elsewhere T j x y)) (e j h)

  pair_unread : (T : Table) (j : ℕ) → pair_reads p q j ≡ false → pair_new f g p q T j ≡ window T j
  pair_unread T j h = elsewhere T j (grind arith) (grind arith)

  pair_local : (T U : Table) → Agree (pair_reads p q) T U → (j : ℕ) → pair_reads p q j ≡ true → pair_new f g p q T j ≡ pair_new f g p q U j
  pair_local T U a j h = go (cases3 p q j)
    where
      x : window T p ≡ window U p
      x = a p (grind (arith, nat_tests))

      y : window T q ≡ window U q
      y = a q (grind (arith, nat_tests))

      go : Cases3 p q j → pair_new f g p q T j ≡ pair_new f g p q U j
      go (inl (u, v)) = at_p T j u ∙ ap₂ f x y ∙ sym (at_p U j u)
      go (inr (inl (u, v, w))) = at_q T j u v ∙ ap₂ g x y ∙ sym (at_q U j u v)
      go (inr (inr (u, v))) = elsewhere T j u v ∙ a j h ∙ sym (elsewhere U j u v)

  pair_mono : (T U : Table) → Every (Of k) T → Every (Of k) U → Inside T U → max (suc p) (suc q) ≤ length T → (j : ℕ) → j < length T → Within (pair_new f g p q T j) (pair_new f g p q U j)
  pair_mono T U e d i r j h v n = go (cases3 p q j)
    where
      go : Cases3 p q j → In v (pair_new f g p q U j)
      go (inl (x, y)) = subst (In v) (sym (at_p U j x)) (laws.mono_f (window T p) (window T q) (window U p) (window U q) (e p (omega arith)) (e q (omega arith)) (d p (omega (arith, i.long))) (d q (omega (arith, i.long))) (i.each p) (i.each q) v (subst (In v) (at_p T j x) n))
      go (inr (inl (x, y, z))) = subst (In v) (sym (at_q U j x y)) (laws.mono_g (window T p) (window T q) (window U p) (window U q) (e p (omega arith)) (e q (omega arith)) (d p (omega (arith, i.long))) (d q (omega (arith, i.long))) (i.each p) (i.each q) v (subst (In v) (at_q T j x y) n))
      go (inr (inr (x, y))) = subst (In v) (sym (elsewhere U j x y)) (i.each j v (subst (In v) (elsewhere T j x y) n))

  pair_keeps : (T : Table) (P : Placing) → Every (Of k) T → Places P T → allows (place P p) (place P q) ≡ true → max (suc p) (suc q) ≤ length T → (j : ℕ) → j < length T → In (place P j) (pair_new f g p q T j)
  pair_keeps T P e m h r j l = go (cases3 p q j)
    where
      go : Cases3 p q j → In (place P j) (pair_new f g p q T j)
      go (inl (x, y)) = subst (λ n. In (place P n) (pair_new f g p q T j)) y (subst (In (place P p)) (sym (at_p T j x)) (laws.keeps_f (window T p) (window T q) (place P p) (place P q) (e p (omega arith)) (e q (omega arith)) (m.each p (omega arith)) (m.each q (omega arith)) h))
      go (inr (inl (x, y, z))) = subst (λ n. In (place P n) (pair_new f g p q T j)) z (subst (In (place P q)) (sym (at_q T j x y)) (laws.keeps_g (window T p) (window T q) (place P p) (place P q) (e p (omega arith)) (e q (omega arith)) (m.each p (omega arith)) (m.each q (omega arith)) h))
      go (inr (inr (x, y))) = subst (In (place P j)) (sym (elsewhere T j x y)) (m.each j l)

  pub pair_lawful : Lawful (Of k) (rule_of (pair_rule f g allows p q))
  pair_lawful = lawful (Of k) (λ s o. o.some) (pair_rule f g allows p q) (record { covers = pair_covers; smaller = pair_smaller; kinds = pair_kinds; unread = pair_unread; local = pair_local; mono = pair_mono; keeps = pair_keeps })

-- ---- same
same_laws : (k : Kind) → Proper k → PairLaws k (λ s t. meet s t) (λ s t. meet s t) (λ v w. eq_z v w)
same_laws k c = record { within_f = λ s t o p v i. (meet_in s t v i).0; within_g = λ s t o p v i. (meet_in s t v i).1; kind_f = λ s t o p n. meet_of k c s t o p n; kind_g = λ s t o p n. meet_of k c s t o p n; mono_f = mono; mono_g = mono; keeps_f = λ s t v w _ _ i j e. in_meet s t v i (subst (λ x. In x t) (sym (same v w e)) j); keeps_g = λ s t v w _ _ i j e. in_meet s t w (subst (λ x. In x s) (same v w e) i) j }
  where
    same : (v w : ℤ) → eq_z v w ≡ true → v ≡ w
    same v w e = grind (arith, tests)

    mono : (s t s' t' : List ℤ) → Of k s → Of k t → Of k s' → Of k t' → Within s s' → Within t t' → Within (meet s t) (meet s' t')
    mono s t s' t' _ _ _ _ a b v i = let m = meet_in s t v i in in_meet s' t' v (a v m.0) (b v m.1)

pub same_lawful : (k : Kind) → Proper k → (p q : ℕ) → Lawful (Of k) (rule_of (same_rule p q))
same_lawful k c p q = pair_lawful k _ _ _ (same_laws k c) p q

-- ---- differ
-- a set that is not empty and lies within one number has just that
only : (t : List ℤ) (v : ℤ) → Rising t → 0 < length t → Within t (v ∷ []) → t ≡ v ∷ []
only [] v r n w = absurd (omega arith)
only (x ∷ t) v r n w = within_both (x ∷ t) (v ∷ []) r tt w (λ y i. subst (λ z. In z (x ∷ t)) (one x (w x (in_here x t)) ∙ sym (one y i)) (in_here x t))
  where
    one : (y : ℤ) → In y (v ∷ []) → y ≡ v
    one y i = grind (arith, tests)

module _ (k : Kind) (c : Proper k) where
  lose_within : (s t : List ℤ) → Of k s → Within (lose_sole k s t) s
  lose_within s [] o v i = i
  lose_within s (x ∷ []) o v i = but_within k c s x o v i
  lose_within s (x ∷ (y ∷ t)) o v i = i

  lose_kind : (s t : List ℤ) → Of k s → 0 < length (lose_sole k s t) → Of k (lose_sole k s t)
  lose_kind s [] o n = o
  lose_kind s (x ∷ []) o n = but_kind k c s x o n
  lose_kind s (x ∷ (y ∷ t)) o n = o

  lose_mono : (s t s' t' : List ℤ) → Of k s → Of k t → Within s s' → Within t t' → Within (lose_sole k s t) (lose_sole k s' t')
  lose_mono s t s' [] o p a b v i = a v (lose_within s t o v i)
  lose_mono s t s' (x ∷ []) o p a b v i = but_mono k c s s' x a v (subst (λ u. In v (lose_sole k s u)) (only t x p.rising p.some b) i)
  lose_mono s t s' (x ∷ (y ∷ t')) o p a b v i = a v (lose_within s t o v i)

  lose_keeps : (s t : List ℤ) (v w : ℤ) → In v s → In w t → (v ≡ w → ⊥) → In v (lose_sole k s t)
  lose_keeps s [] v w i j n = i
  lose_keeps s (x ∷ []) v w i j n = but_keeps k c s x v i (λ e. n (grind (arith, tests)))
  lose_keeps s (x ∷ (y ∷ t)) v w i j n = i

  apart : (v w : ℤ) → not (eq_z v w) ≡ true → v ≡ w → ⊥
  apart v w e q = never (grind (arith, tests))

  differ_laws : PairLaws k (λ s t. lose_sole k s t) (λ s t. lose_sole k t s) (λ v w. not (eq_z v w))
  differ_laws = record { within_f = λ s t o p. lose_within s t o; within_g = λ s t o p. lose_within t s p; kind_f = λ s t o p n. lose_kind s t o n; kind_g = λ s t o p n. lose_kind t s p n; mono_f = λ s t s' t' o p _ _ a b. lose_mono s t s' t' o p a b; mono_g = λ s t s' t' o p _ _ a b. lose_mono t s t' s' p o b a; keeps_f = λ s t v w _ _ i j e. lose_keeps s t v w i j (apart v w e); keeps_g = λ s t v w _ _ i j e. lose_keeps t s w v j i (λ q. apart v w e (sym q)) }

  pub differ_lawful : (p q : ℕ) → Lawful (Of k) (rule_of (differ_rule k p q))
  differ_lawful p q = pair_lawful k _ _ _ differ_laws p q

-- ---- what a pair is refused for
pub pair_within : (p q n j : ℕ) → pair_asks p q n ≡ None → pair_reads p q j ≡ true → j < n
pair_within p q n j a r = grind (arith, nat_tests)

-- a pair of windows below 64 reads only those
pub pair_near : (p q j : ℕ) → Apart p q → pair_reads p q j ≡ true → j < 64
pair_near p q j a r = let x = a.0 in let y = a.1 in grind (arith, nat_tests)

-- ---- what the code writes
pub entries_two : (f g : List ℤ → List ℤ → List ℤ) (p q : ℕ) (T : Table) → filled (window T p) ≡ true → filled (window T q) ≡ true → record { at = p; new = f (window T p) (window T q) } ∷ (record { at = q; new = g (window T p) (window T q) } ∷ []) ≡ pair_entries f g p q T
entries_two f g p q T a b = rw (a, b) refl

pub entries_none : (f g : List ℤ → List ℤ → List ℤ) (p q : ℕ) (T : Table) → (window T p ≡ []) ⊎ (window T q ≡ []) → [] ≡ pair_entries f g p q T
entries_none f g p q T (inl z) = let e = ap filled z in rw e refl
entries_none f g p q T (inr z) = let e = ap filled z in grind arith

-- they give the rule's outcome
pub pair_written : (f g : List ℤ → List ℤ → List ℤ) (allows : ℤ → ℤ → Bool) (p q : ℕ) (T : Table) → eqb p q ≡ false → written T (pair_entries f g p q T) ≡ outcome (rule_of (pair_rule f g allows p q)) T
pair_written f g allows p q T ne = go (filled (window T p)) (filled (window T q)) refl refl
  where
    pp : eqb p p ≡ true
    pp = grind (arith, nat_tests)

    qq : eqb q q ≡ true
    qq = grind (arith, nat_tests)

    at-p' : pair_new f g p q T p ≡ f (window T p) (window T q)
    at-p' = rw pp refl

    at-q' : pair_new f g p q T q ≡ g (window T p) (window T q)
    at-q' = rw (ne, qq) refl

    stays : (j : ℕ) → (eqb p j || (eqb q j || false)) ≡ false → pair_new f g p q T j ≡ window T j
    stays j e = let u : eqb p j ≡ false = grind arith in let v : eqb q j ≡ false = grind arith in rw (u, v) refl

    some : (s : List ℤ) → filled s ≡ true → s ≡ [] → ⊥
    some s e z = never (sym (ap filled z) ∙ e)

    none : (s : List ℤ) → filled s ≡ false → s ≡ []
    none [] e = refl
    none (v ∷ s) e = never (sym e)

    nothing : (j : ℕ) → window T j ≡ [] → j < max (suc p) (suc q) → pair_entries f g p q T ≡ [] → written T (pair_entries f g p q T) ≡ outcome (rule_of (pair_rule f g allows p q)) T
    nothing j z h e = ap (written T) e ∙ written_none_is T ∙ sym (outcome_none (pair_rule f g allows p q) T j z h)

    go : (a b : Bool) → filled (window T p) ≡ a → filled (window T q) ≡ b → written T (pair_entries f g p q T) ≡ outcome (rule_of (pair_rule f g allows p q)) T
    go true true a b = ap (written T) (sym (entries_two f g p q T a b)) ∙ written_made (pair_rule f g allows p q) T (record { at = p; new = f (window T p) (window T q) } ∷ (record { at = q; new = g (window T p) (window T q) } ∷ [])) (let i = window_inside T p (some _ a) in let j = window_inside T q (some _ b) in omega arith) (sym at-p', (sym at-q', tt)) (λ j h e. sym (stays j e))
    go false b x y = let z = none _ x in nothing p z (omega arith) (sym (entries_none f g p q T (inl z)))
    go true false x y = let z = none _ y in nothing q z (omega arith) (sym (entries_none f g p q T (inr z)))

-- what a call gives: the new windows of the definition, which come to the rule's outcome
abbrev pub Given : (f g : List ℤ → List ℤ → List ℤ) (allows : ℤ → ℤ → Bool) (p q : ℕ) (T : Table) (es : List Entry) → Type 0
Given f g allows p q T es = (es ≡ pair_entries f g p q T) × (written T es ≡ outcome (rule_of (pair_rule f g allows p q)) T)

module _ (f g : List ℤ → List ℤ → List ℤ) (allows : ℤ → ℤ → Bool) (p q : ℕ) (T : Table) (a : Apart p q) (es : List Entry) where
  given : es ≡ pair_entries f g p q T → Given f g allows p q T es
  given e = (e, ap (written T) e ∙ pair_written f g allows p q T a.2)

  -- no new window, where one of the two windows is missing
  pub none_given : (window T p ≡ []) ⊎ (window T q ≡ []) → es ≡ [] → Given f g allows p q T es
  none_given z e = given (e ∙ entries_none f g p q T z)

  -- the two new windows, made from the old ones
  pub two_given : (x y s t : List ℤ) → es ≡ record { at = p; new = x } ∷ (record { at = q; new = y } ∷ []) → s ≡ window T p → t ≡ window T q → 0 < length s → 0 < length t → x ≡ f s t → y ≡ g s t → Given f g allows p q T es
  two_given x y s t e es et ns nt ex ey = given (e ∙ ap₂ {C = List Entry} (λ (x y : List ℤ). record { at = p; new = x } ∷ (record { at = q; new = y } ∷ [])) (ex ∙ ap₂ f es et) (ey ∙ ap₂ g es et) ∙ entries_two f g p q T (sym (ap filled es) ∙ some_filled s ns) (sym (ap filled et) ∙ some_filled t nt))
