-- What the sum rules come to, in words of sums and placings.
use Rattle.std.proofs.Common.{◌≡◌, ℕ, suc, ◌<◌, ◌≤◌, Bool, true, false, cond, not, ◌&&◌, ◌||◌, eqb, ◌⊎◌, List, [], ◌∷◌, map, length, get_or, ℤ, pos, ◌-ℤ◌, ◌*ℤ◌, ◌≤ℤ◌, Ok, Err, filter, sym, refl, ap, ◌∙◌, subst, ap₂, inl, inr, arith}
use lib.Signed.{le_z}
use Rattle.std.specs.List.{range_with_len, AllByRecursion as All}
use Rattle.std.proofs.lemmas.List.FromFn.{get_or-map-range_with_len}
use Rattle.std.proofs.lemmas.Int.{ints}
use Rattle.std.proofs.lemmas.Bool.Decides.{eqb_tells}
use Rattle.windows.specs.Sets.{In, least_by, greatest_by}
use Rattle.windows.specs.SetLaws.{tests, never, in_kept, within_kept, kept_passes, least_bounds, greatest_bounds, least_reached, greatest_reached}
use Rattle.rulebook.specs.Tables.{Table, Placing, window, place, filled, all_filled}
use Rattle.rulebook.specs.Rules.{Means, Outcome, narrowed, emptied}
use Rattle.rulebook.specs.Answers.{outcome, Narrowing, Tells}
use Rattle.rulebook.specs.declared.answer.Emptied.{Emptied}
use Rattle.rulebook.specs.declared.set.WindowSet.{WindowSet}
use Rattle.rules.specs.Pointwise.{make_all, narrow_by, rule_of}
use Rattle.rules.proofs.PointwiseLaws.{narrow_tells, window_made, guard_yes, guard_no, le_or_lt}
use Rattle.sums.specs.Sums.{is_exact, in_terms, terms_reach, weight_at, term_least, term_greatest, term_at, total_but, smallest_but, largest_but, sum_of, sum_passes, sum_new, sum_rule}
use Rattle.sums.specs.Questions.{Apart}
use Rattle.sums.specs.Meaning.{terms_of, sum_meaning}
use Rattle.sums.specs.Laws.{Meets, Keeps, Kept, SumKeeps, Takes, sum_but, SumReached}
use Rattle.sums.specs.Steps.{all_read}
use Rattle.sums.specs.declared.posted.Term.{Term}
use Rattle.sums.specs.declared.sum.Sum.{Sum}
use Rattle.sums.proofs.Totals.{no_term, covers, each_read, in_at, weight_is, but_mono, but_same}
use Rattle.sums.proofs.SumLaws.{sum_unread}

-- ---- the placings that a sum allows
pub sum_means : (ts : List Term) (b : ℤ) (exact : Bool) → Means (rule_of (sum_rule ts b exact)) (λ p. Meets exact (sum_of ts p) b)
sum_means ts b true = record { only = λ p h. equal (sum_of ts p) h; all = λ p e. back (sum_of ts p) e }
  where
    equal : (s : ℤ) → (le_z s b && (false || le_z b s)) ≡ true → s ≡ b
    equal s h = grind (arith, ints, tests)

    back : (s : ℤ) → s ≡ b → (le_z s b && (false || le_z b s)) ≡ true
    back s e = grind (arith, ints, tests)
sum_means ts b false = record { only = λ p h. most (sum_of ts p) h; all = λ p e. back (sum_of ts p) e }
  where
    most : (s : ℤ) → (le_z s b && true) ≡ true → s ≤ℤ b
    most s h = grind (arith, ints, tests)

    back : (s : ℤ) → s ≤ℤ b → (le_z s b && true) ≡ true
    back s e = grind (arith, ints, tests)

-- ---- the numbers that a window keeps
passes_is : (exact : Bool) (x low high : ℤ) → (le_z x high && (not exact || le_z low x)) ≡ true → (x ≤ℤ high) × (exact ≡ true → low ≤ℤ x)
passes_is exact x low high h = (grind (arith, ints, tests), λ e. grind (arith, ints, tests))

is_passed : (exact : Bool) (x low high : ℤ) → x ≤ℤ high → (exact ≡ true → low ≤ℤ x) → (le_z x high && (not exact || le_z low x)) ≡ true
is_passed true x low high h k = let l = k refl in grind (arith, ints, tests)
is_passed false x low high h k = grind (arith, ints, tests)

module _ (ts : List Term) (b : ℤ) (exact : Bool) (T : Table) (j : ℕ) where
  new_only : in_terms ts j ≡ true → (v : ℤ) → In v (sum_new ts b exact T j) → Keeps ts b exact T j v
  unfolding sum_new sum_passes
  new_only h v i =
      let k : In v (filter (sum_passes ts b exact T j) (window T j)) = rw h at i in
      let p = passes_is exact (weight_at ts j *ℤ v) (b -ℤ largest_but ts T j) (b -ℤ smallest_but ts T j) (kept_passes (sum_passes ts b exact T j) (window T j) v k) in
      record { old = within_kept (sum_passes ts b exact T j) (window T j) v k; most = p.0; least = p.1 }

  new_all : in_terms ts j ≡ true → (v : ℤ) → Keeps ts b exact T j v → In v (sum_new ts b exact T j)
  unfolding sum_new sum_passes
  new_all h v k = rw h (in_kept (sum_passes ts b exact T j) (window T j) v k.old (is_passed exact (weight_at ts j *ℤ v) (b -ℤ largest_but ts T j) (b -ℤ smallest_but ts T j) k.most k.least))

abbrev Whole : (Table → ℕ → List ℤ) → Table → Type 0
Whole new T = (narrow_by new T ≡ narrowed (make_all new T)) × ((j : ℕ) → j < length T → 0 < length (new T j))

abbrev Lost : (Table → ℕ → List ℤ) → Table → Type 0
Lost new T = (k : ℕ) × (narrow_by new T ≡ emptied k) × (k < length T) × (new T k ≡ []) × ((j : ℕ) → j < k → 0 < length (new T j))

-- ---- the windows after a narrowing
module _ (ts : List Term) (b : ℤ) (exact : Bool) (T U : Table) where
  outcome_is : all_filled T ≡ true → terms_reach ts ≤ length T → outcome (rule_of (sum_rule ts b exact)) T ≡ narrow_by (sum_new ts b exact) T
  outcome_is f r = ap (λ t. cond t ((rule_of (sum_rule ts b exact)).narrow T) (narrowed T)) f ∙ guard_yes (sum_rule ts b exact) T r

  pub changed_keeps : (w : WindowSet) → Tells T (outcome (rule_of (sum_rule ts b exact)) T) (Ok w) U → all_filled T ≡ true → terms_reach ts ≤ length T → (j : ℕ) → in_terms ts j ≡ true → Kept ts b exact T U j
  changed_keeps w t f r j h = go (narrow_tells (sum_new ts b exact) T)
    where
      told : (o : Outcome) → narrow_by (sum_new ts b exact) T ≡ o → Tells T o (Ok w) U
      told o e = subst (λ o. Tells T o (Ok w) U) (outcome_is f r ∙ e) t

      go : Whole (sum_new ts b exact) T ⊎ Lost (sum_new ts b exact) T → Kept ts b exact T U j
      go (inl (e, n)) =
          let c = covers ts j h in
          let l : j < length T = omega arith in
          let k : window U j ≡ sum_new ts b exact T j = ap (λ V. window V j) (told (narrowed (make_all (sum_new ts b exact) T)) e).0 ∙ window_made (sum_new ts b exact) T j l in
          record { only = λ v i. new_only ts b exact T j h v (subst (In v) k i); all = λ v q. subst (In v) (sym k) (new_all ts b exact T j h v q) }
      go (inr (k, e, n, z, m)) = absurd (told (emptied k) e)

  pub emptied_keeps : (a : Emptied) → Tells T (outcome (rule_of (sum_rule ts b exact)) T) (Err a) U → (v : ℤ) → Keeps ts b exact T a.window v → ⊥
  emptied_keeps a t v q = fills (all_filled T) refl (le_or_lt (terms_reach ts) (length T))
    where
      nothing : sum_new ts b exact T a.window ≡ [] → (c : Bool) → in_terms ts a.window ≡ c → ⊥
      nothing z true h = never (subst (In v) z (new_all ts b exact T a.window h v q))
      nothing z false h = never (subst (In v) (sym (sum_unread ts b exact T a.window h) ∙ z) q.old)

      go : Tells T (narrow_by (sum_new ts b exact) T) (Err a) U → Whole (sum_new ts b exact) T ⊎ Lost (sum_new ts b exact) T → ⊥
      go d (inl (e, n)) = subst (λ o. Tells T o (Err a) U) e d
      go d (inr (i, e, n, z, m)) = let c : a.window ≡ i = (subst (λ o. Tells T o (Err a) U) e d).0 in nothing (ap (sum_new ts b exact T) c ∙ z) (in_terms ts a.window) refl

      fills : (f : Bool) → all_filled T ≡ f → (terms_reach ts ≤ length T) ⊎ (length T < terms_reach ts) → ⊥
      fills false f r = subst (λ o. Tells T o (Err a) U) (ap (λ c. cond c ((rule_of (sum_rule ts b exact)).narrow T) (narrowed T)) f) t
      fills true f (inl r) = go (subst (λ o. Tells T o (Err a) U) (outcome_is f r) t) (narrow_tells (sum_new ts b exact) T)
      fills true f (inr r) = subst (λ o. Tells T o (Err a) U) (ap (λ c. cond c ((rule_of (sum_rule ts b exact)).narrow T) (narrowed T)) f ∙ guard_no (sum_rule ts b exact) T r) t

pub narrow_keeps : (s : Sum) (T U : Table) (r : Narrowing) → Tells T (outcome (sum_meaning s) T) r U → SumKeeps s T r U
narrow_keeps s T U (Ok w) t = changed_keeps (terms_of s) s.bound (is_exact s.relation) T U w t
narrow_keeps s T U (Err a) t = emptied_keeps (terms_of s) s.bound (is_exact s.relation) T U a t

-- ---- the smallest and the largest sum of the other terms
read_window : (ts : List Term) (T : Table) (j : ℕ) → all_read ts T ≡ true → in_terms ts j ≡ true → filled (window T j) ≡ true
read_window [] T j a h = never h
read_window (t ∷ ts) T j a h = go (eqb_tells t.window j) (read_window ts T j (grind arith))
  where
    go : ((eqb t.window j ≡ true) × (t.window ≡ j)) ⊎ ((eqb t.window j ≡ false) × (t.window ≡ j → ⊥)) → (in_terms ts j ≡ true → filled (window T j) ≡ true) → filled (window T j) ≡ true
    go (inl (e, q)) ih = subst (λ i. filled (window T i) ≡ true) q (grind arith)
    go (inr (e, q)) ih = ih (grind arith)

each_term : (P : Term → Type 0) (ts : List Term) → ((i : ℕ) → i < length ts → P (get_or ts i no_term)) → All P ts
each_term P [] h = tt
each_term P (t ∷ ts) h = (h 0 (omega arith), each_term P ts (λ i l. h (suc i) (omega arith)))

some_here : (x : ℤ) (s : List ℤ) → 0 < length (x ∷ s)
some_here x s = omega arith

-- the best value that a function has on a set is its value at some number of the set
abbrev Reaches : ((ℤ → ℤ) → List ℤ → ℤ) → Type 0
Reaches best = (f : ℤ → ℤ) (s : List ℤ) → 0 < length s → (v : ℤ) × In v s × (best f s ≡ f v)

module _ (best : (ℤ → ℤ) → List ℤ → ℤ) (r : Reaches best) (f : ℤ → ℤ) where
  pick : List ℤ → ℤ
  pick [] = pos 0
  pick (x ∷ s) = (r f (x ∷ s) (some_here x s)).0

  picks : (s : List ℤ) → filled s ≡ true → In (pick s) s
  unfolding pick
  picks [] h = never h
  picks (x ∷ s) h = (r f (x ∷ s) (some_here x s)).1

  picks_best : (s : List ℤ) → filled s ≡ true → best f s ≡ f (pick s)
  unfolding pick
  picks_best [] h = never h
  picks_best (x ∷ s) h = (r f (x ∷ s) (some_here x s)).2

-- the placing that has, for the window of each term, the number at which the term is best
module _ (best : (ℤ → ℤ) → List ℤ → ℤ) (r : Reaches best) (ts : List Term) (T : Table) (a : all_read ts T ≡ true) (d : Apart ts) where
  chosen : ℕ → ℤ
  chosen i = pick best r (λ v. weight_at ts i *ℤ v) (window T i)

  placing : Placing
  placing = map chosen (range_with_len 0 (terms_reach ts))

  placed : (i : ℕ) → in_terms ts i ≡ true → place placing i ≡ chosen i
  unfolding placing
  placed i h = get_or-map-range_with_len chosen 0 (terms_reach ts) i i (pos 0) (covers ts i h) (omega arith)

  placing_takes : Takes ts placing T
  unfolding chosen
  placing_takes i h = subst (λ v. In v (window T i)) (sym (placed i h)) (picks best r (λ v. weight_at ts i *ℤ v) (window T i) (read_window ts T i a h))

  term_best : (i : ℕ) → i < length ts → term_at placing (get_or ts i no_term) ≡ best (λ v. (get_or ts i no_term).weight *ℤ v) (window T (get_or ts i no_term).window)
  unfolding chosen
  term_best i h =
      let t = get_or ts i no_term in
      let q = in_at ts i h in
      let e = weight_is ts i h d in
      ap₂ ◌*ℤ◌ (sym e) (placed t.window q) ∙ sym (picks_best best r (λ v. weight_at ts t.window *ℤ v) (window T t.window) (read_window ts T t.window a q)) ∙ ap (λ w. best (λ v. w *ℤ v) (window T t.window)) e

  best_but : (j : ℕ) → sum_but ts placing j ≡ total_but (λ t. best (λ v. t.weight *ℤ v) (window T t.window)) ts j
  best_but j = but_same (term_at placing) (λ t. best (λ v. t.weight *ℤ v) (window T t.window)) ts j (each_term (λ t. term_at placing t ≡ best (λ v. t.weight *ℤ v) (window T t.window)) ts term_best)

  reached : (j : ℕ) → (p : Placing) × Takes ts p T × (sum_but ts p j ≡ total_but (λ t. best (λ v. t.weight *ℤ v) (window T t.window)) ts j)
  reached j = (placing, placing_takes, best_but j)

none_less : (ts : List Term) (T : Table) (j : ℕ) (p : Placing) → Takes ts p T → smallest_but ts T j ≤ℤ sum_but ts p j
none_less ts T j p m = but_mono (term_least T) (term_at p) ts j (each_read _ ts (λ t q. least_bounds (λ v. t.weight *ℤ v) (window T t.window) (place p t.window) (m t.window q)))

none_more : (ts : List Term) (T : Table) (j : ℕ) (p : Placing) → Takes ts p T → sum_but ts p j ≤ℤ largest_but ts T j
none_more ts T j p m = but_mono (term_at p) (term_greatest T) ts j (each_read _ ts (λ t q. greatest_bounds (λ v. t.weight *ℤ v) (window T t.window) (place p t.window) (m t.window q)))

pub sum_reached : (s : Sum) → SumReached s
sum_reached s T a j = record { smallest = reached least_by least_reached (terms_of s) T a s.different j; largest = reached greatest_by greatest_reached (terms_of s) T a s.different j; none_less = none_less (terms_of s) T j; none_more = none_more (terms_of s) T j }
