-- The laws of the sum rules.
use Rattle.std.proofs.Common.{◌≡◌, ℕ, ◌<◌, ◌≤◌, min, Bool, true, false, cond, not, ◌&&◌, ◌||◌, ◌⊎◌, List, length, get_or, ℤ, ◌+ℤ◌, ◌-ℤ◌, ◌*ℤ◌, ◌≤ℤ◌, None, filter, refl, ap, ◌∙◌, subst, arith}
use lib.Signed.{le_z}
use Rattle.std.proofs.lemmas.Int.{ints}
use Rattle.windows.specs.Sets.{In, Within, least_by, greatest_by}
use Rattle.windows.specs.Kinds.{Of, spans}
use Rattle.rulebook.specs.Tables.{Table, Placing, window, place, Inside, Places, Every}
use Rattle.rulebook.specs.Rules.{Agree, Lawful}
use Rattle.rules.specs.Pointwise.{rule_of}
use Rattle.sums.specs.Sums.{is_exact, in_terms, terms_reach, weight_at, term_least, term_greatest, term_at, total_but, smallest_but, largest_but, sum_of, sum_passes, sum_new, sum_allows, sum_rule}
use Rattle.sums.specs.Questions.{Apart, given, sum_asks}
use Rattle.sums.specs.Meaning.{terms_of, sum_meaning, posted_meaning}
use Rattle.sums.specs.declared.posted.Term.{Term}
use Rattle.sums.specs.declared.posted.PostedSum.{PostedSum}
use Rattle.sums.specs.declared.sum.Sum.{Sum}
use Rattle.windows.specs.SetLaws.{tests, within_kept, in_kept, kept_passes, kept_same, rising_kept, least_bounds, greatest_bounds, least_within, greatest_within, Gapless, hull_kept}
use Rattle.rules.proofs.PointwiseLaws.{lawful}
use Rattle.sums.proofs.Signed.{mul_between}
use Rattle.sums.proofs.QuestionLaws.{accepted, below_read}
use Rattle.sums.proofs.Totals.{no_term, covers, each_read, index_of, weight_is, but_mono, but_same, but_rest}

-- ---- the smallest and the largest sum of the other terms
-- a term's window is in the table, and has a number
read_inside : (ts : List Term) (T : Table) → terms_reach ts ≤ length T → (t : Term) → in_terms ts t.window ≡ true → t.window < length T
read_inside ts T r t q = let k = covers ts t.window q in omega arith

smallest_mono : (ts : List Term) (T U : Table) (j : ℕ) → Every (Of spans) T → Inside T U → terms_reach ts ≤ length T → smallest_but ts U j ≤ℤ smallest_but ts T j
smallest_mono ts T U j e i r = but_mono (term_least U) (term_least T) ts j (each_read _ ts (λ t q. least_within (λ v. t.weight *ℤ v) (window T t.window) (window U t.window) (i.each t.window) (e t.window (read_inside ts T r t q)).some))

largest_mono : (ts : List Term) (T U : Table) (j : ℕ) → Every (Of spans) T → Inside T U → terms_reach ts ≤ length T → largest_but ts T j ≤ℤ largest_but ts U j
largest_mono ts T U j e i r = but_mono (term_greatest T) (term_greatest U) ts j (each_read _ ts (λ t q. greatest_within (λ v. t.weight *ℤ v) (window T t.window) (window U t.window) (i.each t.window) (e t.window (read_inside ts T r t q)).some))

-- they depend on the terms' windows alone
smallest_local : (ts : List Term) (T U : Table) (j : ℕ) → Agree (in_terms ts) T U → smallest_but ts T j ≡ smallest_but ts U j
smallest_local ts T U j a = but_same (term_least T) (term_least U) ts j (each_read _ ts (λ t q. ap (least_by (λ v. t.weight *ℤ v)) (a t.window q)))

largest_local : (ts : List Term) (T U : Table) (j : ℕ) → Agree (in_terms ts) T U → largest_but ts T j ≡ largest_but ts U j
largest_local ts T U j a = but_same (term_greatest T) (term_greatest U) ts j (each_read _ ts (λ t q. ap (greatest_by (λ v. t.weight *ℤ v)) (a t.window q)))

-- ---- a placing's sum, without the term of window j
smallest_below : (ts : List Term) (T : Table) (p : Placing) (j : ℕ) → Places p T → terms_reach ts ≤ length T → smallest_but ts T j ≤ℤ total_but (term_at p) ts j
smallest_below ts T p j m r = but_mono (term_least T) (term_at p) ts j (each_read _ ts (λ t q. least_bounds (λ v. t.weight *ℤ v) (window T t.window) (place p t.window) (m.each t.window (read_inside ts T r t q))))

largest_above : (ts : List Term) (T : Table) (p : Placing) (j : ℕ) → Places p T → terms_reach ts ≤ length T → total_but (term_at p) ts j ≤ℤ largest_but ts T j
largest_above ts T p j m r = but_mono (term_at p) (term_greatest T) ts j (each_read _ ts (λ t q. greatest_bounds (λ v. t.weight *ℤ v) (window T t.window) (place p t.window) (m.each t.window (read_inside ts T r t q))))

sum_split : (ts : List Term) (p : Placing) (j : ℕ) → Apart ts → in_terms ts j ≡ true → sum_of ts p ≡ weight_at ts j *ℤ place p j +ℤ total_but (term_at p) ts j
sum_split ts p j a h =
    let k = index_of ts j h in
    let t = get_or ts k.0 no_term in
    subst (λ j. sum_of ts p ≡ weight_at ts j *ℤ place p j +ℤ total_but (term_at p) ts j) k.2 (rw (weight_is ts k.0 k.1 a) (back (sum_of ts p) (term_at p t) (total_but (term_at p) ts t.window) (but_rest (term_at p) ts k.0 k.1 a)))
  where
    back : (s x r : ℤ) → r ≡ s -ℤ x → s ≡ x +ℤ r
    back s x r e = omega (arith, ints)

-- ---- the test of one window
gapless : (ts : List Term) (b : ℤ) (exact : Bool) (T : Table) (j : ℕ) → Gapless (sum_passes ts b exact T j)
unfolding Gapless sum_passes
gapless ts b exact T j x y v p q h k = let m = mul_between (weight_at ts j) x v y h k in through (weight_at ts j *ℤ x) (weight_at ts j *ℤ v) (weight_at ts j *ℤ y) (b -ℤ largest_but ts T j) (b -ℤ smallest_but ts T j) m p q
  where
    through : (x v y l h : ℤ) → ((x ≤ℤ v) × (v ≤ℤ y)) ⊎ ((y ≤ℤ v) × (v ≤ℤ x)) → (le_z x h && (not exact || le_z l x)) ≡ true → (le_z y h && (not exact || le_z l y)) ≡ true → (le_z v h && (not exact || le_z l v)) ≡ true
    through x v y l h m p q = grind (arith, ints, tests)

-- with a smaller smallest and a larger largest sum of the others, a number still passes
weaker_test : (exact : Bool) (x b s s' l l' : ℤ) → s' ≤ℤ s → l ≤ℤ l' → (le_z x (b -ℤ s) && (not exact || le_z (b -ℤ l) x)) ≡ true → (le_z x (b -ℤ s') && (not exact || le_z (b -ℤ l') x)) ≡ true
weaker_test exact x b s s' l l' h k p = grind (arith, ints, tests)

-- an allowed sum, of x and the rest
kept_test : (exact : Bool) (all x rest b s l : ℤ) → all ≡ x +ℤ rest → s ≤ℤ rest → rest ≤ℤ l → (le_z all b && (not exact || le_z b all)) ≡ true → (le_z x (b -ℤ s) && (not exact || le_z (b -ℤ l) x)) ≡ true
kept_test exact all x rest b s l e h k p = grind (arith, ints, tests)

sum_smaller : (ts : List Term) (b : ℤ) (exact : Bool) (T : Table) (j : ℕ) → Within (sum_new ts b exact T j) (window T j)
unfolding sum_new
sum_smaller ts b exact T j = go (in_terms ts j)
  where
    go : (t : Bool) → Within (cond t (filter (sum_passes ts b exact T j) (window T j)) (window T j)) (window T j)
    go true v i = within_kept (sum_passes ts b exact T j) (window T j) v i
    go false v i = i

sum_kinds : (ts : List Term) (b : ℤ) (exact : Bool) (T : Table) (j : ℕ) → Of spans (window T j) → 0 < length (sum_new ts b exact T j) → Of spans (sum_new ts b exact T j)
unfolding sum_new
sum_kinds ts b exact T j k = go (in_terms ts j)
  where
    go : (t : Bool) → 0 < length (cond t (filter (sum_passes ts b exact T j) (window T j)) (window T j)) → Of spans (cond t (filter (sum_passes ts b exact T j) (window T j)) (window T j))
    go true h = record { rising = rising_kept (sum_passes ts b exact T j) (window T j) k.rising; some = h; closed = hull_kept (sum_passes ts b exact T j) (window T j) k.rising k.closed (gapless ts b exact T j); bounded = λ v i. k.bounded v (within_kept (sum_passes ts b exact T j) (window T j) v i) }
    go false h = k

pub sum_unread : (ts : List Term) (b : ℤ) (exact : Bool) (T : Table) (j : ℕ) → in_terms ts j ≡ false → sum_new ts b exact T j ≡ window T j
unfolding sum_new
sum_unread ts b exact T j h = rw h refl

sum_local : (ts : List Term) (b : ℤ) (exact : Bool) (T U : Table) → Agree (in_terms ts) T U → (j : ℕ) → in_terms ts j ≡ true → sum_new ts b exact T j ≡ sum_new ts b exact U j
unfolding sum_new
sum_local ts b exact T U a j h =
    rw h (ap (filter (sum_passes ts b exact T j)) (a j h) ∙ kept_same (sum_passes ts b exact T j) (sum_passes ts b exact U j) (window U j) same)
  where
    same : (v : ℤ) → In v (window U j) → sum_passes ts b exact T j v ≡ sum_passes ts b exact U j v
    same v i = let s = smallest_local ts T U j a in let l = largest_local ts T U j a in unfold sum_passes in cc

sum_mono : (ts : List Term) (b : ℤ) (exact : Bool) (T U : Table) → Every (Of spans) T → Inside T U → terms_reach ts ≤ length T → (j : ℕ) → Within (sum_new ts b exact T j) (sum_new ts b exact U j)
unfolding sum_new
sum_mono ts b exact T U e i r j = go (in_terms ts j)
  where
    weaker : (v : ℤ) → sum_passes ts b exact T j v ≡ true → sum_passes ts b exact U j v ≡ true
    weaker v p = let s = smallest_mono ts T U j e i r in let l = largest_mono ts T U j e i r in unfold sum_passes in weaker_test exact (weight_at ts j *ℤ v) b (smallest_but ts T j) (smallest_but ts U j) (largest_but ts T j) (largest_but ts U j) s l p

    go : (t : Bool) → Within (cond t (filter (sum_passes ts b exact T j) (window T j)) (window T j)) (cond t (filter (sum_passes ts b exact U j) (window U j)) (window U j))
    go true v n = in_kept (sum_passes ts b exact U j) (window U j) v (i.each j v (within_kept (sum_passes ts b exact T j) (window T j) v n)) (weaker v (kept_passes (sum_passes ts b exact T j) (window T j) v n))
    go false v n = i.each j v n

sum_keeps : (ts : List Term) (b : ℤ) (exact : Bool) → Apart ts → (T : Table) (p : Placing) → Places p T → sum_allows ts b exact p ≡ true → terms_reach ts ≤ length T → (j : ℕ) → j < length T → In (place p j) (sum_new ts b exact T j)
unfolding sum_new
sum_keeps ts b exact a T p m h r j l = go (in_terms ts j) refl
  where
    passes : in_terms ts j ≡ true → sum_passes ts b exact T j (place p j) ≡ true
    passes q = let s = sum_split ts p j a q in unfold sum_passes in kept_test exact (sum_of ts p) (weight_at ts j *ℤ place p j) (total_but (term_at p) ts j) b (smallest_but ts T j) (largest_but ts T j) s (smallest_below ts T p j m r) (largest_above ts T p j m r) h

    go : (t : Bool) → in_terms ts j ≡ t → In (place p j) (cond t (filter (sum_passes ts b exact T j) (window T j)) (window T j))
    go true q = in_kept (sum_passes ts b exact T j) (window T j) (place p j) (m.each j l) (passes q)
    go false q = m.each j l

pub sum_lawful : (ts : List Term) (b : ℤ) (exact : Bool) → Apart ts → Lawful (Of spans) (rule_of (sum_rule ts b exact))
sum_lawful ts b exact a = lawful (Of spans) (λ s k. k.some) (sum_rule ts b exact) (record { covers = covers ts; smaller = λ T e r j h. sum_smaller ts b exact T j; kinds = λ T e r j h. sum_kinds ts b exact T j (e j h); unread = sum_unread ts b exact; local = sum_local ts b exact; mono = λ T U e f i r j h. sum_mono ts b exact T U e i r j; keeps = λ T p e m h r j l. sum_keeps ts b exact a T p m h r j l })

-- ---- what a book of sums owes
pub meaning_lawful : (s : Sum) → Lawful (Of spans) (sum_meaning s)
meaning_lawful s = sum_lawful (terms_of s) s.bound (is_exact s.relation) s.different

pub meaning_near : (s : Sum) (j : ℕ) → (sum_meaning s).reads j ≡ true → j < 64
meaning_near s j h = below_read 64 (terms_of s) j s.near h

pub asks_within : (p : PostedSum) (exact : Bool) (n j : ℕ) → sum_asks p n ≡ None → (posted_meaning p exact).reads j ≡ true → j < n
asks_within p exact n j e h = let k = below_read (min n 64) (given p) j (accepted p n e).windows h in omega arith
