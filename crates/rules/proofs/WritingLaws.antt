-- New windows written one by one: which window is the lowest emptied, and which windows change.
use Rattle.std.proofs.Common.{◌≡◌, ℕ, zero, suc, ◌+◌, ◌<◌, ◌≤◌, Bool, true, false, cond, not, ◌==◌, ◌&&◌, ◌||◌, eqb, ltb, ◌⊎◌, List, [], ◌∷◌, ◌++◌, map, length, get_or, drop, set, ℤ, is_some, Some, None, Ok, Err, Option, sym, refl, ap, ◌∙◌, subst, ap₂, inl, inr, arith, MatchOption, min}
use Rattle.std.specs.List.{AllByRecursion as All, fold, reduce, filter, list_any}
use Rattle.std.proofs.lemmas.List.{get_or_past, get_or-set_same, get_or-set_other, length-set, length-map, set_past, drop_more, get_or-map, map-append, map-set, set-get_or}
use Rattle.std.proofs.lemmas.Bool.Decides.{nat_tests, eqb_tells}
use Rattle.windows.specs.Sets.{same_set}
use Rattle.windows.specs.SetLaws.{never}
use Rattle.windows.specs.SpanLaws.{same_set_self, same_set_is}
use Rattle.rulebook.specs.Tables.{Table, window, differs, filled, all_filled}
use Rattle.rulebook.specs.Rules.{narrowed, emptied}
use Rattle.rulebook.specs.Answers.{member, outcome, Tells}
use Rattle.rulebook.specs.declared.set.WindowSet.{WindowSet}
use Rattle.bounded.specs.Lists.{Pushed}
use Rattle.bounded.specs.Lists as bounded
use Rattle.rules.specs.Pointwise.{empty_at, judged, narrow_by, Pointwise, rule_of, Entry, has_entry, distinct, replaced, written}
use Rattle.rules.specs.declared.new_windows.NewWindow.{NewWindow}
use Rattle.rules.specs.Writing.{numbers_of, entry, listed, near, lowest_emptied, OthersKept}
use Rattle.rules.proofs.PointwiseLaws.{replaced_length, replaced_made, guard_yes, guard_no, le_or_lt}

-- ---- the lowest emptied window
-- the first empty window, after one that had numbers is another
pub empty_set : (T : Table) (at : ℕ) (new : List ℤ) → (at < length T → filled (window T at) ≡ true) → empty_at (set T at new) ≡ cond (not (filled new) && ltb at (empty_at T)) at (empty_at T)
empty_set [] at new h = grind (arith, nat_tests)
empty_set ([] ∷ T) zero new h = never (h (omega arith))
empty_set ([] ∷ T) (suc at) new h = grind (arith, nat_tests)
empty_set ((v ∷ s) ∷ T) zero [] h = grind (arith, nat_tests)
empty_set ((v ∷ s) ∷ T) zero (w ∷ t) h = refl
empty_set ((v ∷ s) ∷ T) (suc at) new h = let ih = empty_set T at new (λ l. h (omega arith)) in grind (arith, nat_tests)

-- the windows that have an entry have numbers
abbrev Full : Table → List Entry → Type 0
Full T es = (j : ℕ) → has_entry es j ≡ true → j < length T → filled (window T j) ≡ true

pub full_step : (T : Table) (e : Entry) (es : List Entry) → distinct (e ∷ es) ≡ true → Full T (e ∷ es) → Full (set T e.at e.new) es
full_step T e es d f j h l = go (eqb_tells e.at j)
  where
    go : ((eqb e.at j ≡ true) × (e.at ≡ j)) ⊎ ((eqb e.at j ≡ false) × (e.at ≡ j → ⊥)) → filled (window (set T e.at e.new) j) ≡ true
    go (inl (t, q)) = let h' : has_entry es e.at ≡ true = ap (has_entry es) q ∙ h in grind arith
    go (inr (t, q)) = ap filled (get_or-set_other T e.at j e.new [] (λ r. q (sym r))) ∙ f j (grind arith) (omega (arith, length-set T e.at e.new))

pub empty_replaced : (T : Table) (es : List Entry) → distinct es ≡ true → Full T es → empty_at (replaced T es) ≡ lowest_emptied (empty_at T) es
empty_replaced T [] d f = refl
empty_replaced T (e ∷ es) d f =
    empty_replaced (set T e.at e.new) es (grind arith) (full_step T e es d f) ∙ ap (λ n. lowest_emptied n es) (empty_set T e.at e.new (λ l. f e.at (let s = eqb_tells e.at e.at in grind arith) l))

pub full_window : (T : Table) → all_filled T ≡ true → (j : ℕ) → j < length T → filled (window T j) ≡ true
full_window [] a j h = absurd (omega arith)
full_window (s ∷ T) a zero h = grind arith
full_window (s ∷ T) a (suc j) h = full_window T (grind arith) j (omega arith)

pub full_end : (T : Table) → all_filled T ≡ true → empty_at T ≡ length T
full_end [] a = refl
full_end ([] ∷ T) a = never a
full_end ((v ∷ s) ∷ T) a = ap suc (full_end T a)

-- the outcome, from the lowest emptied window
pub judged_lowest : (T : Table) (es : List Entry) → all_filled T ≡ true → distinct es ≡ true → empty_at (replaced T es) ≡ lowest_emptied (length T) es
judged_lowest T es a d = empty_replaced T es d (λ j h l. full_window T a j l) ∙ ap (λ n. lowest_emptied n es) (full_end T a)

pub written_lost : (T : Table) (es : List Entry) → all_filled T ≡ true → distinct es ≡ true → lowest_emptied (length T) es < length T → written T es ≡ emptied (lowest_emptied (length T) es)
unfolding judged
written_lost T es a d h =
    let e = judged_lowest T es a d in
    let l = replaced_length T es in
    let t : ltb (empty_at (replaced T es)) (length (replaced T es)) ≡ true = grind (arith, nat_tests) in
    rw a (rw t (ap emptied e))

pub written_all : (T : Table) (es : List Entry) → all_filled T ≡ true → distinct es ≡ true → length T ≤ lowest_emptied (length T) es → written T es ≡ narrowed (replaced T es)
unfolding judged
written_all T es a d h =
    let e = judged_lowest T es a d in
    let l = replaced_length T es in
    let t : ltb (empty_at (replaced T es)) (length (replaced T es)) ≡ false = grind (arith, nat_tests) in
    rw a (rw t refl)

pub lowest_below : (n : ℕ) (es : List Entry) → lowest_emptied n es ≤ n
lowest_below n [] = omega arith
lowest_below n (e ∷ es) = go (lowest_below e.at es) (lowest_below n es)
  where
    go : lowest_emptied e.at es ≤ e.at → lowest_emptied n es ≤ n → lowest_emptied n (e ∷ es) ≤ n
    go a b = grind (arith, nat_tests)

-- where none is emptied, the next one is not, and none after it
pub none_next : (n : ℕ) (e : Entry) (es : List Entry) → lowest_emptied n (e ∷ es) ≡ n → (e.new ≡ [] → n ≤ e.at) × (lowest_emptied n es ≡ n)
none_next n e es h = by (filled e.new) (ltb e.at n) refl refl
  where
    by : (x t : Bool) → filled e.new ≡ x → ltb e.at n ≡ t → (e.new ≡ [] → n ≤ e.at) × (lowest_emptied n es ≡ n)
    by true t p q = (λ z. never (sym (ap filled z) ∙ p), rw p at h)
    by false true p q = let k : lowest_emptied e.at es ≡ n = rw q at (rw p at h) in let l = lowest_below e.at es in let m : e.at < n = grind (arith, nat_tests) in absurd (omega arith)
    by false false p q = (λ z. grind (arith, nat_tests), rw q at (rw p at h))

-- ---- the loop that writes
-- rows0 have become rows, the windows of which m holds are others, and the new windows of `rest` are still to come
pub record Written {Row : Type 0} (stands : Row → List ℤ) (rows0 rows : List Row) (m : ℕ → Bool) (es rest : List Entry) : Type 0 where
  pub gives : replaced (map stands rows) rest ≡ replaced (map stands rows0) es
  pub exact : (j : ℕ) → m j ≡ differs (map stands rows0) (map stands rows) j
  pub kept : (j : ℕ) (d : Row) → m j ≡ false → get_or rows j d ≡ get_or rows0 j d
  pub old : (j : ℕ) → has_entry rest j ≡ true → window (map stands rows) j ≡ window (map stands rows0) j
  pub apart : distinct rest ≡ true
  pub close : near rest ≡ true
  pub none : lowest_emptied (length rows) rest ≡ length rows

pub same_window : (T : Table) (j : ℕ) → differs T T j ≡ false
same_window T j = ap not (same_set_self (window T j))

pub written_none : {Row : Type 0} (stands : Row → List ℤ) (rows : List Row) (m : ℕ → Bool) (es : List Entry) → ((j : ℕ) → m j ≡ false) → distinct es ≡ true → near es ≡ true → lowest_emptied (length rows) es ≡ length rows → Written stands rows rows m es es
written_none stands rows m es z d n l = record { gives = refl; exact = λ j. z j ∙ sym (same_window (map stands rows) j); kept = λ j x h. refl; old = λ j h. refl; apart = d; close = n; none = l }

module _ {Row : Type 0} (stands : Row → List ℤ) (rows0 rows rows' : List Row) (m m' : ℕ → Bool) (es rest : List Entry) (e : Entry) (w : Written stands rows0 rows m es (e ∷ rest)) where
  -- one new window is written, which makes another window if r holds
  pub written_more : (r : Bool) → map stands rows' ≡ set (map stands rows) e.at e.new → r ≡ differs (map stands rows) (map stands rows') e.at → (r ≡ false → rows' ≡ rows) → OthersKept e.at rows rows' → ((j : ℕ) → m' j ≡ (m j || (r && (ltb e.at 64 && eqb e.at j)))) → Written stands rows0 rows' m' es rest
  written_more r t f s o a = record { gives = ap (λ V. replaced V rest) t ∙ w.gives; exact = λ j. exact j (eqb_tells e.at j); kept = λ j d h. kept j d h (eqb_tells e.at j); old = λ j h. old j h (eqb_tells e.at j); apart = let q = w.apart in grind arith; close = let q = w.close in grind arith; none = ap (λ n. lowest_emptied n rest) long ∙ (none_next (length rows) e rest w.none).1 ∙ sym long }
    where
      T0 : Table
      T0 = map stands rows0

      T : Table
      T = map stands rows

      T' : Table
      T' = map stands rows'

      long : length rows' ≡ length rows
      long = sym (length-map rows' stands) ∙ ap length t ∙ length-set (map stands rows) e.at e.new ∙ length-map rows stands

      low : ltb e.at 64 ≡ true
      low = let q = w.close in grind arith

      here : (j : ℕ) → eqb e.at j ≡ true → window (map stands rows) j ≡ window (map stands rows0) j
      here j q = w.old j (rw q refl)

      there : (j : ℕ) → (e.at ≡ j → ⊥) → window (map stands rows') j ≡ window (map stands rows) j
      there j q = ap (λ V. window V j) t ∙ get_or-set_other (map stands rows) e.at j e.new [] (λ x. q (sym x))

      -- the entry's own window was not changed before
      first : (j : ℕ) → eqb e.at j ≡ true → m j ≡ false
      first j q = w.exact j ∙ ap (λ s. not (same_set (window (map stands rows0) j) s)) (here j q) ∙ same_window (map stands rows0) j

      exact : (j : ℕ) → ((eqb e.at j ≡ true) × (e.at ≡ j)) ⊎ ((eqb e.at j ≡ false) × (e.at ≡ j → ⊥)) → m' j ≡ differs (map stands rows0) (map stands rows') j
      exact j (inl (q, p)) =
          let x = a j in
          let y = first j q in
          let z : m' j ≡ r = grind arith in
          z ∙ f ∙ ap (λ k. differs (map stands rows) (map stands rows') k) p ∙ ap (λ s. not (same_set s (window (map stands rows') j))) (here j q)
      exact j (inr (q, p)) =
          let x = a j in
          let z : m' j ≡ m j = grind arith in
          z ∙ w.exact j ∙ ap (λ s. not (same_set (window (map stands rows0) j) s)) (sym (there j p))

      kept : (j : ℕ) (d : Row) → m' j ≡ false → ((eqb e.at j ≡ true) × (e.at ≡ j)) ⊎ ((eqb e.at j ≡ false) × (e.at ≡ j → ⊥)) → get_or rows' j d ≡ get_or rows0 j d
      kept j d h (inl (q, p)) =
          let x = a j in
          let y = first j q in
          let z : r ≡ false = grind arith in
          ap (λ l. get_or l j d) (s z) ∙ w.kept j d y
      kept j d h (inr (q, p)) =
          let x = a j in
          let z : m j ≡ false = grind arith in
          o j d (λ k. p (sym k)) ∙ w.kept j d z

      old : (j : ℕ) → has_entry rest j ≡ true → ((eqb e.at j ≡ true) × (e.at ≡ j)) ⊎ ((eqb e.at j ≡ false) × (e.at ≡ j → ⊥)) → window (map stands rows') j ≡ window (map stands rows0) j
      old j h (inl (q, p)) = let k : has_entry rest e.at ≡ true = ap (has_entry rest) p ∙ h in let d = w.apart in never (grind arith)
      old j h (inr (q, p)) = there j p ∙ w.old j (rw q h)

  -- a window past the rows' end would be emptied: nothing is done
  pub written_skip : e.new ≡ [] → rows' ≡ rows → ((j : ℕ) → m' j ≡ m j) → Written stands rows0 rows' m' es rest
  written_skip z q a = written_more false (ap (map stands) q ∙ sym (set_past (map stands rows) e.at e.new (let n = none_next (length rows) e rest w.none in let h = n.0 z in omega (arith, length-map rows stands)))) (sym (ap (λ l. differs (map stands rows) (map stands l) e.at) q ∙ same_window (map stands rows) e.at)) (λ _. q) (λ j d _. ap (λ l. get_or l j d) q) (λ j. let x = a j in grind arith)

-- ---- the list of new windows
module _ {W : Type 0} (numbers : W → List ℤ) where
  -- the next one and those after it
  pub listed_next : (items : List (NewWindow W)) (i : ℕ) (x : NewWindow W) → i < length items → x ≡ get_or items i x → drop i (listed numbers items) ≡ entry numbers x ∷ drop (i + 1) (listed numbers items)
  listed_next items i x h q =
      drop_more (listed numbers items) i (entry numbers x) (omega (arith, length-map items (entry numbers))) ∙ ap (λ y. y ∷ drop (i + 1) (listed numbers items)) (get_or-map (entry numbers) items i x (entry numbers x) h ∙ ap (entry numbers) (sym q))

  -- whatever the numbers are
  pub has_any : (xs : List (NewWindow W)) (j : ℕ) → has_entry (map (entry numbers) xs) j ≡ has_entry (map (entry (λ _. [])) xs) j
  has_any [] j = refl
  has_any (x ∷ xs) j = ap (λ t. eqb x.at j || t) (has_any xs j)

  pub near_any : (xs : List (NewWindow W)) → near (map (entry numbers) xs) ≡ near (map (entry (λ _. [])) xs)
  near_any [] = refl
  near_any (x ∷ xs) = ap (λ t. ltb x.at 64 && t) (near_any xs)

  pub distinct_any : (xs : List (NewWindow W)) → distinct (map (entry numbers) xs) ≡ distinct (map (entry (λ _. [])) xs)
  distinct_any [] = refl
  distinct_any (x ∷ xs) = ap₂ (λ s t. not s && t) (has_any xs x.at) (distinct_any xs)

pub near_push : (es : List Entry) (e : Entry) → near es ≡ true → e.at < 64 → near (es ++ (e ∷ [])) ≡ true
near_push [] e n h = grind (arith, nat_tests)
near_push (x ∷ es) e n h = let ih = near_push es e (grind arith) h in grind arith

has_push : (es : List Entry) (e : Entry) (j : ℕ) → has_entry (es ++ (e ∷ [])) j ≡ (has_entry es j || eqb e.at j)
has_push [] e j = grind arith
has_push (x ∷ es) e j = let ih = has_push es e j in grind arith

pub distinct_push : (es : List Entry) (e : Entry) → distinct es ≡ true → has_entry es e.at ≡ false → distinct (es ++ (e ∷ [])) ≡ true
distinct_push [] e d h = refl
distinct_push (x ∷ es) e d h =
    let ih = distinct_push es e (grind arith) (grind arith) in
    let p = has_push es e x.at in
    let s = eqb_tells e.at x.at in
    let t = eqb_tells x.at e.at in
    grind arith

pub some_filled : (s : List ℤ) → 0 < length s → filled s ≡ true
some_filled [] h = absurd (omega arith)
some_filled (v ∷ s) h = refl

-- is there a new window, as it has numbers
pub filled_of : {W : Type 0} (numbers : W → List ℤ) → ((w : W) → 0 < length (numbers w)) → (o : Option W) → filled (numbers_of numbers o) ≡ is_some o
filled_of numbers some None = refl
filled_of numbers some (Some w) = some_filled (numbers w) (some w)

-- ---- one row
module _ {Row : Type 0} (stands : Row → List ℤ) (rows : List Row) (at : ℕ) (row : Row) (h : at < length rows) (q : row ≡ get_or rows at row) where
  pub window_row : window (map stands rows) at ≡ stands row
  window_row = get_or-map stands rows at row [] h ∙ ap stands (sym q)

  -- the same window stands there already
  pub put_same : (new : List ℤ) → same_set (stands row) new ≡ true → map stands rows ≡ set (map stands rows) at new
  put_same new e = sym (set-get_or (map stands rows) at []) ∙ ap (set (map stands rows) at) (window_row ∙ same_set_is (stands row) new e)

  pub put_differs : (row' : Row) (new : List ℤ) → stands row' ≡ new → same_set (stands row) new ≡ false → true ≡ differs (map stands rows) (map stands (set rows at row')) at
  put_differs row' new p e =
      let y : window (map stands (set rows at row')) at ≡ new = ap (λ V. window V at) (map-set stands rows at row') ∙ get_or-set_same (map stands rows) at (stands row') [] (omega (arith, length-map rows stands)) ∙ p in
      sym (ap₂ (λ s t. not (same_set s t)) window_row y ∙ ap not e)

pub none_differs : (s : List ℤ) → 0 < length s → same_set [] s ≡ false
none_differs [] h = absurd (omega arith)
none_differs (v ∷ s) h = refl

-- ---- the answer
pub tells_none : (T : Table) (es : List Entry) (s : WindowSet) → all_filled T ≡ false → ((j : ℕ) → member s j ≡ false) → Tells T (written T es) (Ok s) T
tells_none T es s a z = rw a (refl, λ j. z j ∙ sym (same_window T j))

pub tells_lost : (T : Table) (es : List Entry) (k : ℕ) → all_filled T ≡ true → distinct es ≡ true → k ≡ lowest_emptied (length T) es → k < length T → Tells T (written T es) (Err (record { window = k })) T
tells_lost T es k a d e h = subst (λ o. Tells T o (Err (record { window = k })) T) (sym (written_lost T es a d (omega arith))) (e, refl)

pub tells_all : (T U : Table) (es : List Entry) (s : WindowSet) → all_filled T ≡ true → distinct es ≡ true → length T ≤ lowest_emptied (length T) es → U ≡ replaced T es → ((j : ℕ) → member s j ≡ differs T U j) → Tells T (written T es) (Ok s) U
tells_all T U es s a d h e f = subst (λ o. Tells T o (Ok s) U) (sym (written_all T es a d h)) (e, f)

-- ---- the two searches
pub has_any_at : {W : Type 0} (numbers : W → List ℤ) (xs : List (NewWindow W)) (j : ℕ) → list_any (λ x. x.at == j) xs ≡ has_entry (listed numbers xs) j
has_any_at numbers [] j = refl
has_any_at numbers (x ∷ xs) j = ap (λ t. (x.at == j) || t) (has_any_at numbers xs j)

-- the numbers below n of the new windows that would be emptied
abbrev pub emptied_below : {W : Type 0} → ℕ → List (NewWindow W) → List ℕ
emptied_below n xs = map (λ x. x.at) (filter (λ x. not (is_some x.new) && ltb x.at n) xs)

module _ {W : Type 0} (numbers : W → List ℤ) (some : (w : W) → 0 < length (numbers w)) (n : ℕ) where
  lowest_fold : (xs : List (NewWindow W)) (m : ℕ) → m ≤ n → fold min m (emptied_below n xs) ≡ lowest_emptied m (listed numbers xs)
  lowest_fold [] m l = refl
  lowest_fold (x ∷ xs) m l = subst (λ f. fold min m (emptied_below n (x ∷ xs)) ≡ lowest_emptied (cond (not f && ltb x.at m) x.at m) (listed numbers xs)) (sym (filled_of numbers some x.new)) (by (is_some x.new) (ltb x.at n) refl (lowest_fold xs))
    where
      by : (b t : Bool) → ltb x.at n ≡ t → ((m : ℕ) → m ≤ n → fold min m (emptied_below n xs) ≡ lowest_emptied m (listed numbers xs)) → fold min m (map (λ x. x.at) (cond (not b && t) (x ∷ filter (λ x. not (is_some x.new) && ltb x.at n) xs) (filter (λ x. not (is_some x.new) && ltb x.at n) xs))) ≡ lowest_emptied (cond (not b && ltb x.at m) x.at m) (listed numbers xs)
      by true t q ih = ih m l
      by false true q ih = let e : cond (ltb x.at m) x.at m ≡ min m x.at = grind (arith, nat_tests) in rw e (ih (min m x.at) (omega arith))
      by false false q ih = let e : cond (ltb x.at m) x.at m ≡ m = grind (arith, nat_tests) in rw e (ih m l)

  -- the least of them is the lowest emptied window
  pub lowest_is_least : (xs : List (NewWindow W)) → MatchOption (reduce min (emptied_below n xs)) (lowest_emptied n (listed numbers xs) ≡ n) (λ k. (k < n) × (lowest_emptied n (listed numbers xs) ≡ k))
  lowest_is_least [] = refl
  lowest_is_least (x ∷ xs) = subst (λ f. MatchOption (reduce min (emptied_below n (x ∷ xs))) (lowest_emptied (cond (not f && ltb x.at n) x.at n) (listed numbers xs) ≡ n) (λ k. (k < n) × (lowest_emptied (cond (not f && ltb x.at n) x.at n) (listed numbers xs) ≡ k))) (sym (filled_of numbers some x.new)) (by (is_some x.new) (ltb x.at n) refl (lowest_is_least xs))
    where
      by : (b t : Bool) → ltb x.at n ≡ t → MatchOption (reduce min (emptied_below n xs)) (lowest_emptied n (listed numbers xs) ≡ n) (λ k. (k < n) × (lowest_emptied n (listed numbers xs) ≡ k)) → MatchOption (reduce min (map (λ x. x.at) (cond (not b && t) (x ∷ filter (λ x. not (is_some x.new) && ltb x.at n) xs) (filter (λ x. not (is_some x.new) && ltb x.at n) xs)))) (lowest_emptied (cond (not b && t) x.at n) (listed numbers xs) ≡ n) (λ k. (k < n) × (lowest_emptied (cond (not b && t) x.at n) (listed numbers xs) ≡ k))
      by true t q ih = ih
      by false true q ih = let m : x.at < n = grind (arith, nat_tests) in let f = lowest_fold xs x.at (omega arith) in (omega (arith, f, m, lowest_below x.at (listed numbers xs)), sym f)
      by false false q ih = ih

-- ---- one more new window
module _ {W : Type 0} (numbers : W → List ℤ) (xs ys : List (NewWindow W)) (x : NewWindow W) (a : Option ℕ) (q : bounded.pushed 8 xs x ≡ record { answer = a; after = ys }) where
  -- it stands at the end, if there was room
  after : (ys ≡ xs ++ (x ∷ [])) ⊎ (ys ≡ xs)
  after = go (ltb (length xs) 8) (ap (λ p. p.after) q)
    where
      go : (b : Bool) → (cond {A = Pushed (NewWindow W)} b (record { answer = Some (length xs); after = xs ++ (x ∷ []) }) (record { answer = None; after = xs })).after ≡ ys → (ys ≡ xs ++ (x ∷ [])) ⊎ (ys ≡ xs)
      go true e = inl (sym e)
      go false e = inr (sym e)

  pub push_kept : near (listed (λ _. []) xs) ≡ true → distinct (listed (λ _. []) xs) ≡ true → x.at < 64 → has_entry (listed numbers xs) x.at ≡ false → (near (listed (λ _. []) ys) ≡ true) × (distinct (listed (λ _. []) ys) ≡ true)
  push_kept n d l e = go after
    where
      last : listed (λ _. []) (xs ++ (x ∷ [])) ≡ listed (λ _. []) xs ++ (entry (λ _. []) x ∷ [])
      last = map-append (entry (λ _. [])) xs (x ∷ [])

      go : (ys ≡ xs ++ (x ∷ [])) ⊎ (ys ≡ xs) → (near (listed (λ _. []) ys) ≡ true) × (distinct (listed (λ _. []) ys) ≡ true)
      go (inl p) = rw (p, last) (near_push (listed (λ _. []) xs) (entry (λ _. []) x) n l, distinct_push (listed (λ _. []) xs) (entry (λ _. []) x) d (sym (has_any numbers xs x.at) ∙ e))
      go (inr p) = rw p (n, d)

pub no_new : {W : Type 0} (numbers : W → List ℤ) (o : Option W) → ((w : W) → o ≡ Some w → ⊥) → numbers_of numbers o ≡ []
no_new numbers None h = refl
no_new numbers (Some w) h = absurd (h w refl)

-- ---- what a rule's code owes
-- a window that has numbers is in the table
pub window_inside : (T : Table) (j : ℕ) → (window T j ≡ [] → ⊥) → j < length T
window_inside T j h = let g = get_or_past T j [] in grind arith

-- new windows that hold what the rule makes, one for each window that it changes, give the rule's outcome
pub written_made : (c : Pointwise) (T : Table) (es : List Entry) → c.reach ≤ length T → All (λ e. e.new ≡ c.new T e.at) es → ((j : ℕ) → j < length T → has_entry es j ≡ false → window T j ≡ c.new T j) → written T es ≡ outcome (rule_of c) T
written_made c T es r a k = ap (λ o. cond (all_filled T) o (narrowed T)) (ap judged (replaced_made c.new T es a k) ∙ sym (guard_yes c T r ∙ unfold narrow_by in refl))

-- where a window that the rule reads has no numbers, nothing is done
pub outcome_none : (c : Pointwise) (T : Table) (j : ℕ) → window T j ≡ [] → j < c.reach → outcome (rule_of c) T ≡ narrowed T
outcome_none c T j z h = go (all_filled T) refl (le_or_lt (length T) j)
  where
    go : (b : Bool) → all_filled T ≡ b → (length T ≤ j) ⊎ (j < length T) → outcome (rule_of c) T ≡ narrowed T
    go false e l = rw e refl
    go true e (inl l) = ap (λ b. cond b ((rule_of c).narrow T) (narrowed T)) e ∙ guard_no c T (omega arith)
    go true e (inr l) = never (sym (ap filled z) ∙ full_window T e j l)

-- no new windows
pub written_none_is : (T : Table) → written T [] ≡ narrowed T
unfolding judged
written_none_is T = go (all_filled T) refl
  where
    go : (b : Bool) → all_filled T ≡ b → written T [] ≡ narrowed T
    go true e = let f = full_end T e in let t : ltb (empty_at T) (length T) ≡ false = grind (arith, nat_tests) in rw e (rw t refl)
    go false e = rw e refl

-- the numbers of a call's answer
pub numbers_is : {W : Type 0} (numbers : W → List ℤ) (o : Option W) (s : List ℤ) → MatchOption o (s ≡ []) (λ w. numbers w ≡ s) → numbers_of numbers o ≡ s
numbers_is numbers None s h = sym h
numbers_is numbers (Some w) s h = h
