-- What holds of the windows of every kind: what two share, all numbers but one, and how many numbers there are.
use Rattle.std.proofs.Common.{◌≡◌, ◌<◌, ◌≤◌, not, ◌⊎◌, List, [], ◌∷◌, length, ℤ, pos, negsuc, sym, refl, ap, ◌∙◌, subst, inl, inr, arith}
use Rattle.std.proofs.lemmas.Int.{ints}
use Rattle.windows.specs.Sets.{eq_z, has, In, Within, Rising, count, range, meet, remove}
use Rattle.windows.specs.Kinds.{Kind, Of, Proper, Smallest, all_but}
use Rattle.windows.specs.SetLaws.{tests, never, is_between, in_cons, in_here, in_there, has_above, above_rising, within_both, none_within, rising_kept, rising_range, has_range, length_range, has_meet, has_remove}

-- ---- sizes
-- a set inside another has fewer numbers, or is the same
pub smaller : (s t : List ℤ) → Rising s → Rising t → Within s t → (length s < length t) ⊎ (s ≡ t)
smaller [] [] rs rt h = inr refl
smaller [] (y ∷ t) rs rt h = inl (omega arith)
smaller (x ∷ s) [] rs rt h = never (h x (in_here x s))
smaller (x ∷ s) (y ∷ t) rs rt h = go (smaller s t (above_rising x s rs) (above_rising y t rt)) (smaller (x ∷ s) t rs (above_rising y t rt)) (in_cons y t x (h x (in_here x s)))
  where
    tail : y ≡ x → Within s t
    tail e v k = let l = has_above x s v rs k in let i = in_cons y t v (h v (in_there x s v k)) in grind (arith, ints)

    -- x stands behind y in t, so y is no number of s
    behind : In x t → Within (x ∷ s) t
    behind k v i = first (in_cons x s v i) (in_cons y t v (h v i))
      where
        first : (x ≡ v) ⊎ In v s → (y ≡ v) ⊎ In v t → In v t
        first (inl p) b = subst (λ z. In z t) p k
        first (inr j) b = let l = has_above x s v rs j in let m = has_above y t x rt k in grind (arith, ints)

    more : (length s < length t) ⊎ (s ≡ t) → y ≡ x → (length (x ∷ s) < length (y ∷ t)) ⊎ (x ∷ s ≡ y ∷ t)
    more (inl l) e = inl (omega arith)
    more (inr q) e = inr (cc)

    less : (length (x ∷ s) < length t) ⊎ (x ∷ s ≡ t) → (length (x ∷ s) < length (y ∷ t)) ⊎ (x ∷ s ≡ y ∷ t)
    less (inl l) = inl (omega arith)
    less (inr q) = inl (omega (arith, ap length q))

    go : (Within s t → (length s < length t) ⊎ (s ≡ t)) → (Within (x ∷ s) t → (length (x ∷ s) < length t) ⊎ (x ∷ s ≡ t)) → (y ≡ x) ⊎ In x t → (length (x ∷ s) < length (y ∷ t)) ⊎ (x ∷ s ≡ y ∷ t)
    go ih jh (inl e) = more (ih (tail e)) e
    go ih jh (inr k) = less (jh (behind k))

-- every number of a window lies between -1,000,000 and 1,000,000, so there are at most 2,000,001
pub few : (k : Kind) → Proper k → (s : List ℤ) → Of k s → length s ≤ 2000001
few k p s o = go (smaller s (range (negsuc 999999) (pos 1000000)) o.rising (rising_range (negsuc 999999) (pos 1000000)) inside) whole
  where
    inside : Within s (range (negsuc 999999) (pos 1000000))
    inside v i =
        let b = o.bounded v i in
        let f = p.from in
        let t = p.to in
        has_range (negsuc 999999) (pos 1000000) v ∙ is_between (negsuc 999999) (pos 1000000) v (omega (arith, ints)) (omega (arith, ints))

    whole : length (range (negsuc 999999) (pos 1000000)) ≡ 2000001
    whole = length_range (negsuc 999999) (pos 1000000) ∙ unfold count in refl

    go : (length s < length (range (negsuc 999999) (pos 1000000))) ⊎ (s ≡ range (negsuc 999999) (pos 1000000)) → length (range (negsuc 999999) (pos 1000000)) ≡ 2000001 → length s ≤ 2000001
    go (inl l) w = omega arith
    go (inr e) w = omega (arith, ap length e)

-- a part of a window that is closed, and not empty, is a window
pub part_of : (k : Kind) (s t : List ℤ) → Of k s → Within t s → Rising t → k.around t ≡ t → 0 < length t → Of k t
part_of k s t o w r c n = record { rising = r; some = n; closed = c; bounded = λ v i. o.bounded v (w v i) }

pub some_of : (s : List ℤ) → (s ≡ [] → ⊥) → 0 < length s
some_of [] h = absurd (h refl)
some_of (x ∷ s) h = omega arith

pub not_none : (s : List ℤ) → 0 < length s → s ≡ [] → ⊥
not_none s n q = let r = ap length q in omega arith

-- ---- what two sets share
pub in_meet : (s t : List ℤ) (v : ℤ) → In v s → In v t → In v (meet s t)
in_meet s t v i j = let e = has_meet s t v in grind arith

pub meet_in : (s t : List ℤ) (v : ℤ) → In v (meet s t) → In v s × In v t
meet_in s t v i = let e = has_meet s t v in (grind arith, grind arith)

pub rising_meet : (s t : List ℤ) → Rising s → Rising (meet s t)
unfolding meet
rising_meet s t r = rising_kept (has t) s r

pub meet_closed : (k : Kind) → Proper k → (s t : List ℤ) → Of k s → Of k t → k.around (meet s t) ≡ meet s t
meet_closed k c s t o p = within_both (k.around (meet s t)) (meet s t) (c.rising (meet s t) (rising_meet s t o.rising)) (rising_meet s t o.rising) there (c.holds (meet s t))
  where
    there : Within (k.around (meet s t)) (meet s t)
    there v i = in_meet s t v (subst (In v) o.closed (c.mono (meet s t) s (λ w j. (meet_in s t w j).0) v i)) (subst (In v) p.closed (c.mono (meet s t) t (λ w j. (meet_in s t w j).1) v i))

-- what two windows share is a window, unless it is nothing
pub meet_of : (k : Kind) → Proper k → (s t : List ℤ) → Of k s → Of k t → 0 < length (meet s t) → Of k (meet s t)
meet_of k c s t o p n = part_of k s (meet s t) o (λ v i. (meet_in s t v i).0) (rising_meet s t o.rising) (meet_closed k c s t o p) n

-- ---- all numbers but one
pub in_remove : (x : ℤ) (s : List ℤ) (v : ℤ) → In v s → (v ≡ x → ⊥) → In v (remove x s)
in_remove x s v i n = let e = has_remove x s v in grind (arith, tests)

pub remove_in : (x : ℤ) (s : List ℤ) (v : ℤ) → In v (remove x s) → In v s × (v ≡ x → ⊥)
remove_in x s v i = let e = has_remove x s v in (grind arith, λ q. grind (arith, tests))

pub rising_remove : (x : ℤ) (s : List ℤ) → Rising s → Rising (remove x s)
unfolding remove
rising_remove x s r = rising_kept (λ y. not (eq_z y x)) s r

module _ (k : Kind) (c : Proper k) where
  pub but_within : (s : List ℤ) (x : ℤ) → Of k s → Within (all_but k s x) s
  unfolding all_but
  but_within s x o v i = subst (In v) o.closed (c.mono (remove x s) s (λ w j. (remove_in x s w j).0) v i)

  pub but_kind : (s : List ℤ) (x : ℤ) → Of k s → 0 < length (all_but k s x) → Of k (all_but k s x)
  unfolding all_but
  but_kind s x o n = part_of k s (all_but k s x) o (but_within s x o) (c.rising (remove x s) (rising_remove x s o.rising)) (c.again (remove x s)) n

  pub but_mono : (s s' : List ℤ) (x : ℤ) → Within s s' → Within (all_but k s x) (all_but k s' x)
  unfolding all_but
  but_mono s s' x a = c.mono (remove x s) (remove x s') (λ v i. let b = remove_in x s v i in in_remove x s' v (a v b.0) b.1)

  pub but_keeps : (s : List ℤ) (x v : ℤ) → In v s → (v ≡ x → ⊥) → In v (all_but k s x)
  unfolding all_but
  but_keeps s x v i n = c.holds (remove x s) v (in_remove x s v i n)

  -- nothing is left exactly if there was no other number
  pub but_none : (s : List ℤ) (x : ℤ) → all_but k s x ≡ [] → remove x s ≡ []
  unfolding all_but
  but_none s x e = none_within (remove x s) (subst (Within (remove x s)) e (c.holds (remove x s)))

  pub but_smallest : (s : List ℤ) (x : ℤ) → Of k s → 0 < length (all_but k s x) → Smallest k (remove x s) (all_but k s x)
  but_smallest s x o n = record { window = but_kind s x o n; holds = unfold all_but in c.holds (remove x s); least = λ u p w v i. subst (In v) p.closed (c.mono (remove x s) u w v (unfold all_but in i)) }

-- the same of a set that is known to be that
pub smallest_from : (k : Kind) → Proper k → (s t : List ℤ) (x : ℤ) → Of k s → 0 < length t → t ≡ all_but k s x → Smallest k (remove x s) t
smallest_from k c s t x o n e = subst (Smallest k (remove x s)) (sym e) (but_smallest k c s x o (subst (λ u. 0 < length u) e n))
