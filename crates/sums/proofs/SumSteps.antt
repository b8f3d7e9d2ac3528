-- The steps of a narrowing by a sum, as numbers and lists.
use Rattle.std.proofs.Common.{◌≡◌, ℕ, zero, suc, ◌+◌, ◌*◌, ◌<◌, ◌≤◌, min, Bool, true, false, cond, ◌||◌, eqb, ltb, leb, List, [], ◌∷◌, ◌++◌, length, get_or, take, ℤ, pos, negsuc, ◌+ℤ◌, ◌-ℤ◌, ◌*ℤ◌, ◌≤ℤ◌, Some, None, Ok, filter, Option, sym, refl, ap, ◌∙◌, subst, ap₂, arith, w32, w64, SFits}
use Rattle.std.specs.Int.{int_min, int_max}
use Rattle.std.specs.List.{AllByRecursion as All}
use Rattle.std.proofs.lemmas.List.{take_more, length-map, length-take}
use Rattle.std.proofs.lemmas.Int.{ints}
use Rattle.std.proofs.lemmas.Bool.Decides.{nat_tests}
use Rattle.windows.specs.Sets.{range, between, least_by, greatest_by}
use Rattle.windows.specs.Rows.{Stands}
use Rattle.windows.specs.declared.span.Span.{Span}
use Rattle.windows.specs.SetLaws.{never, kept_range, range_some}
use Rattle.rulebook.specs.Tables.{Table, window, filled, all_filled}
use Rattle.rulebook.specs.Rules.{Outcome, narrowed}
use Rattle.rulebook.specs.Answers.{outcome, member, Narrowing, Tells}
use Rattle.rulebook.specs.declared.set.WindowSet.{WindowSet}
use Rattle.rules.specs.Pointwise.{rule_of, Entry, has_entry, judged, narrow_by, written}
use Rattle.rules.specs.Writing.{numbers_of, pushed}
use Rattle.rules.proofs.PointwiseLaws.{replaced_made}
use Rattle.rules.proofs.WritingLaws.{some_filled, full_window, same_window}
use Rattle.sums.specs.Sums.{term_least, term_greatest, smallest, largest, smallest_but, largest_but, in_terms, weighed, sum_passes, sum_new, sum_rule, terms_reach}
use Rattle.sums.specs.Questions.{windows_below, Apart, weights_fit}
use Rattle.sums.specs.Sizes.{Weighs, Small}
use Rattle.sums.specs.Steps.{WindowOf, all_read, entries}
use Rattle.sums.specs.Meaning.{terms_of}
use Rattle.sums.specs.declared.posted.Term.{Term}
use Rattle.sums.specs.declared.sum.Sum.{Sum}
use Rattle.sums.proofs.SumLaws.{sum_unread}
use Rattle.sums.proofs.QuestionLaws.{weighs_is}
use Rattle.sums.proofs.Totals.{no_term, in_at, fresh, weight_is, but_rest}

-- ---- the terms of a sum
-- the terms of an accepted sum
pub record Fit (ts : List Term) : Type 0 where
  pub few : length ts ≤ 8
  pub near : windows_below 64 ts ≡ true
  pub different : Apart ts
  pub weights : weights_fit ts ≡ true

pub fit_is : (s : Sum) → Fit (terms_of s)
fit_is s = let t = length-take s.terms.len s.terms.slots in let f = s.terms.few in record { few = omega arith; near = s.near; different = s.different; weights = s.weights }

pub weight_fits : (w : ℤ) → Weighs w → SFits w32 w
weight_fits w f = omega (arith, ints)

pub term_weighs : (ts : List Term) (i : ℕ) → i < length ts → weights_fit ts ≡ true → Weighs (get_or ts i no_term).weight
term_weighs [] i h e = absurd (omega arith)
term_weighs (t ∷ ts) zero h e = weighs_is t.weight (grind arith)
term_weighs (t ∷ ts) (suc i) h e = term_weighs ts i (omega arith) (grind arith)

-- ---- the windows of the terms that are left
pub read_none : (T : Table) (t : Term) (ts : List Term) → window T t.window ≡ [] → all_read (t ∷ ts) T ≡ false
read_none T t ts e = rw e refl

pub read_some : (T : Table) (t : Term) (ts : List Term) (lo hi : ℤ) → lo ≤ℤ hi → range lo hi ≡ window T t.window → all_read (t ∷ ts) T ≡ all_read ts T
read_some T t ts lo hi h e = let f : filled (window T t.window) ≡ true = subst (λ s. filled s ≡ true) e (some_filled (range lo hi) (range_some lo hi h)) in rw f refl

-- ---- the extremes
pub least_is : (T : Table) (t : Term) (lo hi x : ℤ) → range lo hi ≡ window T t.window → x ≡ least_by (λ v. t.weight *ℤ v) (range lo hi) → x ≡ term_least T t
least_is T t lo hi x w e = e ∙ ap (least_by (λ v. t.weight *ℤ v)) w

pub greatest_is : (T : Table) (t : Term) (lo hi x : ℤ) → range lo hi ≡ window T t.window → x ≡ greatest_by (λ v. t.weight *ℤ v) (range lo hi) → x ≡ term_greatest T t
greatest_is T t lo hi x w e = e ∙ ap (greatest_by (λ v. t.weight *ℤ v)) w

-- the sums stay small
pub small_step : (i : ℕ) (a x : ℤ) → Small (10000000000 * i) a → Small 10000000000 x → Small (10000000000 * (i + 1)) (a +ℤ x)
small_step i a x s t = (omega (arith, ints), omega (arith, ints))

pub small_fits : (i : ℕ) (a x : ℤ) → i < 8 → Small (10000000000 * i) a → Small 10000000000 x → SFits w64 (a +ℤ x)
small_fits i a x h s t = omega (arith, ints)

pub small_end : (i : ℕ) (a : ℤ) → i ≤ 8 → Small (10000000000 * i) a → Small 80000000000 a
small_end i a h s = (omega (arith, ints), omega (arith, ints))

-- ---- one window
pub new_window_is : (w : ℤ) (exact : Bool) (bound least greatest lo hi lt gt low high from to : ℤ) (r : Option Span) → Stands lo hi → lt ≡ least_by (λ v. w *ℤ v) (range lo hi) → gt ≡ greatest_by (λ v. w *ℤ v) (range lo hi) → low ≡ bound -ℤ (greatest -ℤ gt) → high ≡ bound -ℤ (least -ℤ lt) → ((v : ℤ) → negsuc 999999 ≤ℤ v → v ≤ℤ pos 1000000 → weighed w exact low high v ≡ between from to v) → WindowOf (range (int_max lo from) (int_min hi to)) r → WindowOf (filter (weighed w exact (bound -ℤ (greatest -ℤ greatest_by (λ v. w *ℤ v) (range lo hi))) (bound -ℤ (least -ℤ least_by (λ v. w *ℤ v) (range lo hi)))) (range lo hi)) r
new_window_is w exact bound least greatest lo hi lt gt low high from to r s lv gv el eh q c =
    let k : filter (weighed w exact low high) (range lo hi) ≡ range (int_max lo from) (int_min hi to) = kept_range lo hi from to (weighed w exact low high) (λ v l h. q v (omega (arith, ints, s.1)) (omega (arith, ints, s.2))) in
    let a : low ≡ bound -ℤ (greatest -ℤ greatest_by (λ v. w *ℤ v) (range lo hi)) = el ∙ ap (λ x. bound -ℤ (greatest -ℤ x)) gv in
    let b : high ≡ bound -ℤ (least -ℤ least_by (λ v. w *ℤ v) (range lo hi)) = eh ∙ ap (λ x. bound -ℤ (least -ℤ x)) lv in
    subst (λ s. WindowOf s r) (sym k ∙ ap₂ (λ x y. filter (weighed w exact x y) (range lo hi)) a b) c

-- the new window of a term, from the extremes of all
pub term_new : (ts : List Term) (b : ℤ) (exact : Bool) (T : Table) (i : ℕ) → i < length ts → Apart ts → sum_new ts b exact T (get_or ts i no_term).window ≡ filter (weighed (get_or ts i no_term).weight exact (b -ℤ (largest ts T -ℤ term_greatest T (get_or ts i no_term))) (b -ℤ (smallest ts T -ℤ term_least T (get_or ts i no_term)))) (window T (get_or ts i no_term).window)
unfolding sum_new sum_passes
term_new ts b exact T i h a =
    let o = in_at ts i h in
    let x = but_rest (term_least T) ts i h a in
    let y = but_rest (term_greatest T) ts i h a in
    let w = weight_is ts i h a in
    let W = window T (get_or ts i no_term).window in
    rw o (ap (λ z. filter (weighed z exact (b -ℤ largest_but ts T (get_or ts i no_term).window) (b -ℤ smallest_but ts T (get_or ts i no_term).window)) W) w ∙ ap₂ (λ g l. filter (weighed (get_or ts i no_term).weight exact (b -ℤ g) (b -ℤ l)) W) y x)

-- the same, at the row that holds the window
pub row_new : (ts : List Term) (b : ℤ) (exact : Bool) (T : Table) (i : ℕ) (least greatest lo hi : ℤ) → i < length ts → Apart ts → least ≡ smallest ts T → greatest ≡ largest ts T → window T (get_or ts i no_term).window ≡ range lo hi → filter (weighed (get_or ts i no_term).weight exact (b -ℤ (greatest -ℤ greatest_by (λ v. (get_or ts i no_term).weight *ℤ v) (range lo hi))) (b -ℤ (least -ℤ least_by (λ v. (get_or ts i no_term).weight *ℤ v) (range lo hi)))) (range lo hi) ≡ sum_new ts b exact T (get_or ts i no_term).window
row_new ts b exact T i least greatest lo hi h a el eg ew =
    ap (λ s. filter (weighed (get_or ts i no_term).weight exact (b -ℤ (greatest -ℤ greatest_by (λ v. (get_or ts i no_term).weight *ℤ v) s)) (b -ℤ (least -ℤ least_by (λ v. (get_or ts i no_term).weight *ℤ v) s))) s) (sym ew)
    ∙ ap₂ (λ g l. filter (weighed (get_or ts i no_term).weight exact (b -ℤ (g -ℤ term_greatest T (get_or ts i no_term))) (b -ℤ (l -ℤ term_least T (get_or ts i no_term)))) (window T (get_or ts i no_term).window)) eg el
    ∙ sym (term_new ts b exact T i h a)

-- ---- the list of new windows
pub numbers_window : (s : List ℤ) (r : Option Span) → WindowOf s r → numbers_of (λ w. range w.lo w.hi) r ≡ s
numbers_window s None e = sym e
numbers_window s (Some w) e = e

pub term_below : (n : ℕ) (ts : List Term) (i : ℕ) → i < length ts → windows_below n ts ≡ true → (get_or ts i no_term).window < n
term_below n [] i h e = absurd (omega arith)
term_below n (t ∷ ts) zero h e = grind (arith, nat_tests)
term_below n (t ∷ ts) (suc i) h e = term_below n ts i (omega arith) (grind arith)

has_entries : (f : ℕ → List ℤ) (ts : List Term) (j : ℕ) → has_entry (entries f ts) j ≡ in_terms ts j
has_entries f [] j = refl
has_entries f (t ∷ ts) j = ap (λ b. eqb t.window j || b) (has_entries f ts j)

entries_snoc : (f : ℕ → List ℤ) (ts : List Term) (t : Term) → entries f (ts ++ (t ∷ [])) ≡ entries f ts ++ (record { at = t.window; new = f t.window } ∷ [])
entries_snoc f [] t = refl
entries_snoc f (u ∷ ts) t = ap (λ l. record { at = u.window; new = f u.window } ∷ l) (entries_snoc f ts t)

-- one term more is one entry more
pub entries_more : (f : ℕ → List ℤ) (ts : List Term) (i : ℕ) (es es' : List Entry) (new : List ℤ) → Fit ts → i < length ts → es ≡ entries f (take i ts) → new ≡ f (get_or ts i no_term).window → es' ≡ pushed es (record { at = (get_or ts i no_term).window; new = new }) → es' ≡ entries f (take (i + 1) ts)
entries_more f ts i es es' new fit h e n p =
    let t = get_or ts i no_term in
    let k = ap length e ∙ length-map (take i ts) (λ u. record { at = u.window; new = f u.window }) ∙ length-take i ts in
    let l : ltb (length es) 8 ≡ true = room (length es) (length ts) i k h fit.few in
    let b : ltb t.window 64 ≡ true = below t.window 64 (term_below 64 ts i h fit.near) in
    let d : has_entry es t.window ≡ false = ap (λ l. has_entry l t.window) e ∙ has_entries f (take i ts) t.window ∙ fresh ts i h fit.different in
    p ∙ pushed-yes es (record { at = t.window; new = new }) l b d ∙ ap₂ (λ l x. l ++ (record { at = t.window; new = x } ∷ [])) e n ∙ sym (entries_snoc f (take i ts) t) ∙ sym (ap (entries f) (take_more ts i no_term h))
  where
    below : (m n : ℕ) → m < n → ltb m n ≡ true
    below m n h = grind (arith, nat_tests)

    room : (m n i : ℕ) → m ≡ min i n → i < n → n ≤ 8 → ltb m 8 ≡ true
    room m n i e h k = below m 8 (omega arith)

    pushed-yes : (es : List Entry) (x : Entry) → ltb (length es) 8 ≡ true → ltb x.at 64 ≡ true → has_entry es x.at ≡ false → pushed es x ≡ es ++ (x ∷ [])
    pushed-yes es x a b d = rw (a, b, d) refl

-- ---- the outcome
pub read_at : (T : Table) (ts : List Term) (i : ℕ) → i < length ts → all_read ts T ≡ true → window T (get_or ts i no_term).window ≡ [] → ⊥
read_at T [] i h a e = absurd (omega arith)
read_at T (t ∷ ts) zero h a e = never (sym (read_none T t ts e) ∙ a)
read_at T (t ∷ ts) (suc i) h a e = read_at T ts i (omega arith) (grind arith) e

filled_below : (T : Table) (j : ℕ) → filled (window T j) ≡ true → j < length T
filled_below [] j e = never e
filled_below (s ∷ T) zero e = omega arith
filled_below (s ∷ T) (suc j) e = let ih = filled_below T j e in omega arith

read_reach : (T : Table) (ts : List Term) → all_read ts T ≡ true → terms_reach ts ≤ length T
read_reach T [] a = omega arith
read_reach T (t ∷ ts) a = let f : filled (window T t.window) ≡ true = grind arith in let ih = read_reach T ts (grind arith) in let b = filled_below T t.window f in omega arith

reach_read : (T : Table) (ts : List Term) → all_filled T ≡ true → terms_reach ts ≤ length T → all_read ts T ≡ true
reach_read T [] a h = refl
reach_read T (t ∷ ts) a h = let f = full_window T a t.window (omega arith) in let ih = reach_read T ts a (omega arith) in rw (f, ih) refl

-- where the window of a term is missing, nothing is done
pub unread_outcome : (ts : List Term) (b : ℤ) (exact : Bool) (T : Table) → all_read ts T ≡ false → outcome (rule_of (sum_rule ts b exact)) T ≡ narrowed T
unread_outcome ts b exact T e = go (all_filled T) refl (leb (terms_reach ts) (length T)) refl
  where
    go : (f : Bool) → all_filled T ≡ f → (r : Bool) → leb (terms_reach ts) (length T) ≡ r → cond f (cond r (narrow_by (sum_new ts b exact) T) (narrowed T)) (narrowed T) ≡ narrowed T
    go false q r s = refl
    go true q false s = refl
    go true q true s = let h : terms_reach ts ≤ length T = grind (arith, nat_tests) in never (sym e ∙ reach_read T ts q h)

entries_hold : (f : ℕ → List ℤ) (ts : List Term) → All (λ e. e.new ≡ f e.at) (entries f ts)
entries_hold f [] = tt
entries_hold f (t ∷ ts) = (refl, entries_hold f ts)

-- the entries of all terms make the outcome of the rule
pub entries_outcome : (ts : List Term) (b : ℤ) (exact : Bool) (T : Table) → all_read ts T ≡ true → written T (entries (sum_new ts b exact T) ts) ≡ outcome (rule_of (sum_rule ts b exact)) T
unfolding narrow_by
entries_outcome ts b exact T e =
    let f = sum_new ts b exact T in
    let k = read_reach T ts e in
    let r : leb (terms_reach ts) (length T) ≡ true = grind (arith, nat_tests) in
    let m = replaced_made (sum_new ts b exact) T (entries f ts) (entries_hold f ts) (λ j h q. sym (sum_unread ts b exact T j (sym (has_entries f ts j) ∙ q))) in
    ap (λ U. cond (all_filled T) (judged U) (narrowed T)) m ∙ sym (ap (λ t. cond (all_filled T) (cond t (narrow_by (sum_new ts b exact) T) (narrowed T)) (narrowed T)) r)

-- what a narrowing tells
pub tells_some : (ts : List Term) (b : ℤ) (exact : Bool) (T U : Table) (es : List Entry) (r : Narrowing) → all_read ts T ≡ true → es ≡ entries (sum_new ts b exact T) ts → Tells T (written T es) r U → Tells T (outcome (rule_of (sum_rule ts b exact)) T) r U
tells_some ts b exact T U es r a e t = subst (λ o. Tells T o r U) (ap (written T) e ∙ entries_outcome ts b exact T a) t

pub tells_kept : (T : Table) (o : Outcome) (s : WindowSet) → o ≡ narrowed T → ((j : ℕ) → member s j ≡ false) → Tells T o (Ok s) T
tells_kept T o s n e = subst (λ o. Tells T o (Ok s) T) (sym n) (refl, λ j. e j ∙ sym (same_window T j))
