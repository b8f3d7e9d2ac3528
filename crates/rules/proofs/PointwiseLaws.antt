-- The laws of a rule that is given window by window.
use Rattle.std.proofs.Common.{◌≡◌, ℕ, zero, suc, ◌<◌, ◌≤◌, Bool, true, false, eqb, ltb, leb, ◌⊎◌, List, [], ◌∷◌, length, set, ℤ, sym, refl, ap, ◌∙◌, subst, subst₂, inl, inr, arith}
use Rattle.std.proofs.lemmas.List.FromFn.{length-map-range_with_len, get_or-map-range_with_len}
use Rattle.std.specs.List.{AllByRecursion as All}
use Rattle.std.proofs.lemmas.Bool.Decides.{nat_tests, leb_tells, eqb_tells}
use Rattle.std.proofs.lemmas.List.{get_or_past, get_or-set_same, get_or-set_other, length-set, ext_get_or}
use Rattle.windows.specs.Sets.{has, In, Within}
use Rattle.rulebook.specs.Tables.{Table, Placing, window, place, Inside, Places, Every}
use Rattle.rulebook.specs.Rules.{Outcome, narrowed, emptied, Agree, Alike, Lawful}
use Rattle.rules.specs.Pointwise.{empty_at, judged, make_all, narrow_by, Pointwise, rule_of, Entry, has_entry, replaced}
use Rattle.windows.specs.SetLaws.{never, within_some}

-- ---- what a judgement tells
-- the windows of N before k have numbers
abbrev pub Filled : Table → ℕ → Type 0
Filled N k = (j : ℕ) → j < k → 0 < length (window N j)

pub empty_tells : (N : Table) → Filled N (empty_at N) × (empty_at N ≤ length N) × (empty_at N < length N → window N (empty_at N) ≡ [])
empty_tells [] = (λ j h. absurd (omega arith), omega arith, λ h. absurd (omega arith))
empty_tells ([] ∷ N) = (λ j h. absurd (omega arith), omega arith, λ h. refl)
empty_tells ((x ∷ s) ∷ N) = let ih = empty_tells N in (filled ih.0, omega arith, λ h. ih.2 (omega arith))
  where
    filled : Filled N (empty_at N) → Filled ((x ∷ s) ∷ N) (suc (empty_at N))
    filled f zero h = omega arith
    filled f (suc j) h = f j (omega arith)

pub judged_tells : (N : Table) → ((judged N ≡ narrowed N) × Filled N (length N)) ⊎ ((k : ℕ) × (judged N ≡ emptied k) × (k < length N) × (window N k ≡ []) × Filled N k)
unfolding judged
judged_tells N = go (ltb (empty_at N) (length N)) refl (empty_tells N)
  where
    go : (t : Bool) → ltb (empty_at N) (length N) ≡ t → Filled N (empty_at N) × (empty_at N ≤ length N) × (empty_at N < length N → window N (empty_at N) ≡ []) → ((judged N ≡ narrowed N) × Filled N (length N)) ⊎ ((k : ℕ) × (judged N ≡ emptied k) × (k < length N) × (window N k ≡ []) × Filled N k)
    go true e f = let h : empty_at N < length N = grind (arith, nat_tests) in inr (empty_at N, rw e refl, h, f.2 h, f.0)
    go false e f = let h : length N ≡ empty_at N = grind (arith, nat_tests) in inl (rw e refl, rw h f.0)

-- ---- the table of new windows
pub length_made : (new : Table → ℕ → List ℤ) (T : Table) → length (make_all new T) ≡ length T
unfolding make_all
length_made new T = length-map-range_with_len (new T) 0 (length T)

pub window_made : (new : Table → ℕ → List ℤ) (T : Table) (j : ℕ) → j < length T → window (make_all new T) j ≡ new T j
unfolding make_all
window_made new T j h = get_or-map-range_with_len (new T) 0 (length T) j j [] h (omega arith)

-- ---- what a rule owes at each window
pub record PointwiseLaws (kind : List ℤ → Type 0) (c : Pointwise) : Type 0 where
  pub covers : (j : ℕ) → c.reads j ≡ true → j < c.reach
  pub smaller : (T : Table) → Every kind T → c.reach ≤ length T → (j : ℕ) → j < length T → Within (c.new T j) (window T j)
  pub kinds : (T : Table) → Every kind T → c.reach ≤ length T → (j : ℕ) → j < length T → 0 < length (c.new T j) → kind (c.new T j)
  pub unread : (T : Table) (j : ℕ) → c.reads j ≡ false → c.new T j ≡ window T j
  pub local : (T U : Table) → Agree c.reads T U → (j : ℕ) → c.reads j ≡ true → c.new T j ≡ c.new U j
  pub mono : (T U : Table) → Every kind T → Every kind U → Inside T U → c.reach ≤ length T → (j : ℕ) → j < length T → Within (c.new T j) (c.new U j)
  pub keeps : (T : Table) (p : Placing) → Every kind T → Places p T → c.allows p ≡ true → c.reach ≤ length T → (j : ℕ) → j < length T → In (place p j) (c.new T j)

-- no window is emptied, or the k-th is the first
abbrev Whole : (Table → ℕ → List ℤ) → Table → Type 0
Whole new T = (narrow_by new T ≡ narrowed (make_all new T)) × ((j : ℕ) → j < length T → 0 < length (new T j))

abbrev Lost : (Table → ℕ → List ℤ) → Table → Type 0
Lost new T = (k : ℕ) × (narrow_by new T ≡ emptied k) × (k < length T) × (new T k ≡ []) × ((j : ℕ) → j < k → 0 < length (new T j))

pub narrow_tells : (new : Table → ℕ → List ℤ) (T : Table) → Whole new T ⊎ Lost new T
unfolding narrow_by
narrow_tells new T = go (judged_tells (make_all new T))
  where
    back : (k : ℕ) → k ≤ length T → Filled (make_all new T) k → (j : ℕ) → j < k → 0 < length (new T j)
    back k b f j h = let w = window_made new T j (omega arith) in rw w at (f j h)

    go : ((judged (make_all new T) ≡ narrowed (make_all new T)) × Filled (make_all new T) (length (make_all new T))) ⊎ ((k : ℕ) × (judged (make_all new T) ≡ emptied k) × (k < length (make_all new T)) × (window (make_all new T) k ≡ []) × Filled (make_all new T) k) → Whole new T ⊎ Lost new T
    go (inl (e, f)) = inl (e, back (length T) (omega arith) (rw (length_made new T) at f))
    go (inr (k, e, h, z, f)) = let l : k < length T = rw (length_made new T) at h in inr (k, e, l, sym (window_made new T k l) ∙ z, back k (omega arith) f)

pub guard_yes : (c : Pointwise) (T : Table) → c.reach ≤ length T → (rule_of c).narrow T ≡ narrow_by c.new T
guard_yes c T h = let e : leb c.reach (length T) ≡ true = grind (arith, nat_tests) in rw e refl

pub guard_no : (c : Pointwise) (T : Table) → length T < c.reach → (rule_of c).narrow T ≡ narrowed T
guard_no c T h = let e : leb c.reach (length T) ≡ false = grind (arith, nat_tests) in rw e refl

pub le_or_lt : (m n : ℕ) → (m ≤ n) ⊎ (n < m)
le_or_lt m n = grind (arith, leb_tells)

pub inside_same : (T : Table) → Inside T T
inside_same T = record { long = refl; each = λ j v i. i }

narrowed_same : (o : Outcome) (T U : Table) → o ≡ narrowed T → o ≡ narrowed U → U ≡ T
narrowed_same o T U e f = cc

not_both : {X : Type 0} (o : Outcome) (T : Table) (k : ℕ) → o ≡ narrowed T → o ≡ emptied k → X
not_both o T k e f = absurd (let z : ◌≡◌ {A = ℕ} 0 1 = cc in omega arith)

pub filled : (s : List ℤ) → 0 < length s → s ≡ [] → ⊥
filled s n q = let r = ap length q in omega arith

-- ---- new windows in their places
-- entries that hold what the rule makes at their windows, one for each window that changes, make the rule's table
pub replaced_length : (T : Table) (es : List Entry) → length (replaced T es) ≡ length T
replaced_length T [] = refl
replaced_length T (e ∷ es) = replaced_length (set T e.at e.new) es ∙ length-set T e.at e.new

pub replaced_window : (f : ℕ → List ℤ) (T : Table) (es : List Entry) (j : ℕ) → j < length T → All (λ e. e.new ≡ f e.at) es → (has_entry es j ≡ false → window T j ≡ f j) → window (replaced T es) j ≡ f j
replaced_window f T [] j h a k = k refl
replaced_window f T (e ∷ es) j h a k = replaced_window f (set T e.at e.new) es j (let l = length-set T e.at e.new in omega arith) a.1 (λ n. here n (eqb_tells e.at j))
  where
    here : has_entry es j ≡ false → ((eqb e.at j ≡ true) × (e.at ≡ j)) ⊎ ((eqb e.at j ≡ false) × (e.at ≡ j → ⊥)) → window (set T e.at e.new) j ≡ f j
    here n (inl (t, q)) = ap (λ i. window (set T i e.new) j) q ∙ get_or-set_same T j e.new [] h ∙ a.0 ∙ ap f q
    here n (inr (t, q)) = get_or-set_other T e.at j e.new [] (λ r. q (sym r)) ∙ k (rw (t, n) refl)

pub replaced_made : (new : Table → ℕ → List ℤ) (T : Table) (es : List Entry) → All (λ e. e.new ≡ new T e.at) es → ((j : ℕ) → j < length T → has_entry es j ≡ false → window T j ≡ new T j) → replaced T es ≡ make_all new T
replaced_made new T es a k = ext_get_or [] (replaced T es) (make_all new T) (replaced_length T es ∙ sym (length_made new T)) (λ j h. let l : j < length T = (let q = replaced_length T es in omega arith) in replaced_window (new T) T es j l a (k j l) ∙ sym (window_made new T j l))

module _ (kind : List ℤ → Type 0) (some : (s : List ℤ) → kind s → 0 < length s) (c : Pointwise) (laws : PointwiseLaws kind c) where
  made_every : (T : Table) → Every kind T → c.reach ≤ length T → ((j : ℕ) → j < length T → 0 < length (c.new T j)) → Every kind (make_all c.new T)
  made_every T e r f j h =
      let l : j < length T = rw (length_made c.new T) at h in
      rw (window_made c.new T j l) (laws.kinds T e r j l (f j l))

  made_inside : (T : Table) → Every kind T → c.reach ≤ length T → Inside (make_all c.new T) T
  made_inside T e r = record { long = length_made c.new T; each = λ j. each j (le_or_lt (length T) j) }
    where
      each : (j : ℕ) → (length T ≤ j) ⊎ (j < length T) → Within (window (make_all c.new T) j) (window T j)
      each j (inl h) v i = never (sym (ap (λ s. has s v) (get_or_past (make_all c.new T) j [] (let q = length_made c.new T in omega arith))) ∙ i)
      each j (inr h) v i = laws.smaller T e r j h v (rw (window_made c.new T j h) at i)

  shrinks_by : (T U : Table) → Every kind T → (rule_of c).narrow T ≡ narrowed U → ((length T < c.reach) × (U ≡ T)) ⊎ ((c.reach ≤ length T) × (U ≡ make_all c.new T) × ((j : ℕ) → j < length T → 0 < length (c.new T j)))
  shrinks_by T U e h = go (le_or_lt c.reach (length T)) (narrow_tells c.new T)
    where
      go : (c.reach ≤ length T) ⊎ (length T < c.reach) → Whole c.new T ⊎ Lost c.new T → ((length T < c.reach) × (U ≡ T)) ⊎ ((c.reach ≤ length T) × (U ≡ make_all c.new T) × ((j : ℕ) → j < length T → 0 < length (c.new T j)))
      go (inl r) (inl w) = inr (r, narrowed_same _ _ _ (guard_yes c T r ∙ w.0) h, w.1)
      go (inl r) (inr l) = not_both _ U l.0 h (guard_yes c T r ∙ l.1)
      go (inr r) w = inl (r, narrowed_same _ _ _ (guard_no c T r) h)

  shrinks : (T U : Table) → Every kind T → (rule_of c).narrow T ≡ narrowed U → Every kind U × Inside U T
  shrinks T U e h = go (shrinks_by T U e h)
    where
      go : ((length T < c.reach) × (U ≡ T)) ⊎ ((c.reach ≤ length T) × (U ≡ make_all c.new T) × ((j : ℕ) → j < length T → 0 < length (c.new T j))) → Every kind U × Inside U T
      go (inl (r, q)) = subst (λ V. Every kind V × Inside V T) (sym q) (e, inside_same T)
      go (inr (r, q, f)) = subst (λ V. Every kind V × Inside V T) (sym q) (made_every T e r f, made_inside T e r)

  unread : (T U : Table) (j : ℕ) → Every kind T → (rule_of c).narrow T ≡ narrowed U → c.reads j ≡ false → window U j ≡ window T j
  unread T U j e h u = go (shrinks_by T U e h) (le_or_lt (length T) j)
    where
      go : ((length T < c.reach) × (U ≡ T)) ⊎ ((c.reach ≤ length T) × (U ≡ make_all c.new T) × ((j : ℕ) → j < length T → 0 < length (c.new T j))) → (length T ≤ j) ⊎ (j < length T) → window U j ≡ window T j
      go (inl (r, q)) b = ap (λ V. window V j) q
      go (inr (r, q, f)) (inl b) = let l = length_made c.new T in ap (λ V. window V j) q ∙ get_or_past (make_all c.new T) j [] (omega arith) ∙ sym (get_or_past T j [] b)
      go (inr (r, q, f)) (inr b) = ap (λ V. window V j) q ∙ window_made c.new T j b ∙ laws.unread T j u

  -- the two tables of cuts have the same windows where the rule reads
  made_agree : (T U : Table) → length T ≡ length U → Agree c.reads T U → Agree c.reads (make_all c.new T) (make_all c.new U)
  made_agree T U l a j h = go (le_or_lt (length T) j)
    where
      go : (length T ≤ j) ⊎ (j < length T) → window (make_all c.new T) j ≡ window (make_all c.new U) j
      go (inl b) = let p = length_made c.new T in let q = length_made c.new U in get_or_past (make_all c.new T) j [] (omega arith) ∙ sym (get_or_past (make_all c.new U) j [] (omega arith))
      go (inr b) = window_made c.new T j b ∙ laws.local T U a j h ∙ sym (window_made c.new U j (omega arith))

  -- a window that is emptied is read, so it is emptied in the other table too
  also_lost : (T U : Table) → Every kind T → Agree c.reads T U → (k : ℕ) → k < length T → c.new T k ≡ [] → c.new U k ≡ []
  also_lost T U e a k h z = go (c.reads k) refl
    where
      go : (t : Bool) → c.reads k ≡ t → c.new U k ≡ []
      go true q = sym (laws.local T U a k q) ∙ z
      go false q = let w = laws.unread T k q in let n = some (window T k) (e k h) in absurd (filled (window T k) n (sym w ∙ z))

  local : (T U : Table) → Every kind T → Every kind U → length T ≡ length U → Agree c.reads T U → Alike c.reads ((rule_of c).narrow T) ((rule_of c).narrow U)
  local T U e f l a = go (le_or_lt c.reach (length T)) (narrow_tells c.new T) (narrow_tells c.new U)
    where
      back : Agree c.reads U T
      back j h = sym (a j h)

      both : (o q : Outcome) → (rule_of c).narrow T ≡ o → (rule_of c).narrow U ≡ q → Alike c.reads o q → Alike c.reads ((rule_of c).narrow T) ((rule_of c).narrow U)
      both o q x y z = subst₂ (Alike c.reads) (sym x) (sym y) z

      go : (c.reach ≤ length T) ⊎ (length T < c.reach) → Whole c.new T ⊎ Lost c.new T → Whole c.new U ⊎ Lost c.new U → Alike c.reads ((rule_of c).narrow T) ((rule_of c).narrow U)
      go (inl r) (inl v) (inl w) = both _ _ (guard_yes c T r ∙ v.0) (guard_yes c U (omega arith) ∙ w.0) (made_agree T U l a)
      go (inl r) (inl v) (inr (k, w, h, z, g)) = absurd (filled _ (v.1 k (omega arith)) (also_lost U T f back k h z))
      go (inl r) (inr (k, v, h, z, g)) (inl w) = absurd (filled _ (w.1 k (omega arith)) (also_lost T U e a k h z))
      go (inl r) (inr (k, v, h, z, g)) (inr (k', v', h', z', g')) = both _ _ (guard_yes c T r ∙ v) (guard_yes c U (omega arith) ∙ v') (first (le_or_lt k k') (le_or_lt k' k))
        where
          first : (k ≤ k') ⊎ (k' < k) → (k' ≤ k) ⊎ (k < k') → k ≡ k'
          first (inl x) (inl y) = omega arith
          first (inr x) y = absurd (filled _ (g k' x) (also_lost U T f back k' h' z'))
          first (inl x) (inr y) = absurd (filled _ (g' k y) (also_lost T U e a k h z))
      go (inr r) v w = both _ _ (guard_no c T r) (guard_no c U (omega arith)) a

  made_mono : (T U : Table) → Every kind T → Every kind U → Inside T U → c.reach ≤ length T → Inside (make_all c.new T) (make_all c.new U)
  made_mono T U e f i r = record { long = length_made c.new T ∙ i.long ∙ sym (length_made c.new U); each = λ j. each j (le_or_lt (length T) j) }
    where
      each : (j : ℕ) → (length T ≤ j) ⊎ (j < length T) → Within (window (make_all c.new T) j) (window (make_all c.new U) j)
      each j (inl h) v n = never (sym (ap (λ s. has s v) (get_or_past (make_all c.new T) j [] (let q = length_made c.new T in omega arith))) ∙ n)
      each j (inr h) v n =
          let l : j < length U = omega (arith, i.long) in
          rw (window_made c.new U j l) (laws.mono T U e f i r j h v (rw (window_made c.new T j h) at n))

  monotone : (T U T' : Table) → Every kind T → Every kind U → Inside T U → (rule_of c).narrow T ≡ narrowed T' → (U' : Table) × ((rule_of c).narrow U ≡ narrowed U') × Inside T' U'
  monotone T U T' e f i h = go (shrinks_by T T' e h) (narrow_tells c.new U)
    where
      go : ((length T < c.reach) × (T' ≡ T)) ⊎ ((c.reach ≤ length T) × (T' ≡ make_all c.new T) × ((j : ℕ) → j < length T → 0 < length (c.new T j))) → Whole c.new U ⊎ Lost c.new U → (U' : Table) × ((rule_of c).narrow U ≡ narrowed U') × Inside T' U'
      go (inl (r, q)) w = (U, guard_no c U (omega (arith, i.long)), subst (λ V. Inside V U) (sym q) i)
      go (inr (r, q, n)) (inl w) = (make_all c.new U, guard_yes c U (omega (arith, i.long)) ∙ w.0, subst (λ V. Inside V (make_all c.new U)) (sym q) (made_mono T U e f i r))
      go (inr (r, q, n)) (inr (k, w, b, z, g)) =
          let l : k < length T = omega (arith, i.long) in
          absurd (filled _ (within_some (c.new T k) (c.new U k) (laws.mono T U e f i r k l) (n k l)) z)

  keeps : (T : Table) (p : Placing) → Every kind T → Places p T → c.allows p ≡ true → (U : Table) × ((rule_of c).narrow T ≡ narrowed U) × Places p U
  keeps T p e m h = go (le_or_lt c.reach (length T)) (narrow_tells c.new T)
    where
      go : (c.reach ≤ length T) ⊎ (length T < c.reach) → Whole c.new T ⊎ Lost c.new T → (U : Table) × ((rule_of c).narrow T ≡ narrowed U) × Places p U
      go (inl r) (inl w) = (make_all c.new T, guard_yes c T r ∙ w.0, record { long = m.long ∙ sym (length_made c.new T); each = λ j b. let l : j < length T = rw (length_made c.new T) at b in rw (window_made c.new T j l) (laws.keeps T p e m h r j l) })
      go (inl r) (inr w) = never (sym (ap (λ s. has s (place p w.0)) w.3) ∙ laws.keeps T p e m h r w.0 w.2)
      go (inr r) w = (T, guard_no c T r, m)

  pub lawful : Lawful kind (rule_of c)
  lawful = record { shrinks = shrinks; unread = unread; local = local; monotone = monotone; keeps = keeps }
