-- The other calls keep the invariant, and so every state that calls lead to has it.
use Rattle.std.proofs.Common.{◌≡◌, ℕ, ◌<◌, ◌≤◌, Bool, true, false, cond, eqb, ◌⊎◌, List, [], ◌∷◌, ◌++◌, length, get_or, take, set, ℤ, sym, refl, ap, ◌∙◌, subst, inl, inr, ⊎_elim, arith}
use Rattle.std.proofs.lemmas.List.{length-append, length-take, length-set, take-take, take_at, take_all, get_or-take, get_or_append_left, get_or_push, get_or-set_same, set-get_or}
use Rattle.std.proofs.lemmas.Bool.{cases_Bool, both_ways, cases_eq}
use Rattle.windows.specs.Sets.{same_set, meet}
use Rattle.windows.specs.SetLaws.{none_within, never}
use Rattle.windows.specs.SpanLaws.{same_set_is}
use Rattle.rulebook.specs.Tables.{Table, Placing, window, Inside, Places, Every}
use Rattle.rulebook.specs.Rules.{Rule, narrowed, missing, Lawful}
use Rattle.rulebook.specs.Answers.{reads_at}
use Rattle.plan.specs.Steady.{Steady, Fits}
use Rattle.policies.specs.Waiting.{holds, put, puts, Chooses}
use Rattle.plan.specs.States.{State, Copy, at}
use Rattle.plan.specs.Calls.{all_waiting, making, posting, Cut, cut_to, cutting, marking, with_marks, keeping_at, restored, taking_back_at}
use Rattle.plan.specs.Asking.{Ask, Held, ask_made, ask_posted, ask_cut, ask_marked, ask_kept_at, ask_back_at, Reached, made, posted, cut, settled, marked, kept, back, HoldsAll}
use Rattle.plan.specs.declared.answer.Cutting.TheVariants.{Changed, Unchanged}
use Rattle.plan.proofs.ProperSets.{ProperSets}
use Rattle.plan.proofs.TableLaws.{inside_refl, inside_trans, every_set, at_set, met, met_inside, inside_met, places_inside, places_met}
use Rattle.policies.specs.WaitingLaws.{puts_new, puts_absent, put_old, put_self}
use Rattle.plan.proofs.RuleLaws.{lawful_all, calm_still}
use Rattle.plan.proofs.Goodness.{Sound, Marked, Good}
use Rattle.plan.proofs.SettlingLaws.{settling_ran}

-- where every rule waits, none is promised to be calm
all_wait : (rules : List Rule) (i : ℕ) → length rules ≤ 64 → i < length rules → holds i (all_waiting rules) ≡ true
all_wait rules i f b = puts_new (λ _. true) (length rules) i [] f b refl

making_good : (sets : List ℤ → Type 0) (rules : List Rule) (T : Table) → length rules ≤ 64 → ((i : ℕ) → i < length rules → Lawful sets (get_or rules i missing)) → Every sets T → Good sets (ask_made rules T) (making rules T)
making_good sets rules T few laws kinds =
    record {
      same = refl;
      few = few;
      lawful = lawful_all sets rules laws;
      sound = record { kinds = kinds; long = refl; inside = λ _. inside_refl T; above = λ V h. (refl, h.inside); fits = λ p h. (refl, h.inside) };
      calm = λ _ i b h. absurd (both_ways (holds i (all_waiting rules)) h (all_wait rules i few b));
      marks = tt;
    }

-- marks of fewer rules are marks of more
marked_wider : (sets : List ℤ → Type 0) (rules : List Rule) (n : ℕ) (hs : List Held) (cs : List Copy) → Marked sets (take n rules) hs cs → Marked sets rules hs cs
marked_wider sets rules n [] [] m = tt
marked_wider sets rules n [] (c ∷ cs) m = m
marked_wider sets rules n (h ∷ hs) [] m = m
marked_wider sets rules n (h ∷ hs) (c ∷ cs) m =
    let l = m.1 in
    let q : take c.count (take n rules) ≡ take c.count rules = take-take c.count n rules (omega (arith, length-take n rules)) in
    (m.0, omega (arith, length-take n rules), sym q ∙ m.2, subst (λ (rs : List Rule). Sound sets h.asked rs c.impossible c.table) q m.3, subst (λ (rs : List Rule). Marked sets rs hs cs) q m.4)

-- one rule more asks more
sound_more : (sets : List ℤ → Type 0) (asked : Table) (rules : List Rule) (r : Rule) (b : Bool) (T : Table) → Sound sets asked rules b T → Sound sets asked (rules ++ (r ∷ [])) b T
sound_more sets asked rules r b T sound =
    record {
      kinds = sound.kinds;
      long = sound.long;
      inside = sound.inside;
      above = λ V h. sound.above V (record { kinds = h.kinds; inside = h.inside; calm = λ i l. subst (λ (x : Rule). x.narrow V ≡ narrowed V) (get_or_append_left rules (r ∷ []) missing i l) (h.calm i (more i l)) });
      fits = λ p h. sound.fits p (record { inside = h.inside; allowed = λ i l. subst (λ (x : Rule). x.allows p ≡ true) (get_or_append_left rules (r ∷ []) missing i l) (h.allowed i (more i l)) });
    }
  where
    more : (i : ℕ) → i < length rules → i < length (rules ++ (r ∷ []))
    more i l = simp length-append (omega arith)

posting_good : (sets : List ℤ → Type 0) (r : Rule) (a : Ask) (s : State) → length s.rules < 64 → Lawful sets r → Good sets a s → Good sets (ask_posted r a) (posting r s)
posting_good sets r a s room law good =
    record {
      same = ap (λ (rs : List Rule). rs ++ (r ∷ [])) good.same;
      few = simp length-append (omega arith);
      lawful = lawful_all sets (s.rules ++ (r ∷ [])) (λ i l. at_each (Lawful sets) i l law (λ b. good.lawful i));
      sound = sound_more sets a.asked s.rules r s.impossible s.table good.sound;
      calm = λ p i l h. ⊎_elim (λ (e : i ≡ length s.rules). absurd (both_ways (holds i (put (length s.rules) s.waiting)) h (subst (λ (k : ℕ). holds k (put (length s.rules) s.waiting) ≡ true) (sym e) (put_self (length s.rules) s.waiting room)))) (λ n. old p i l h n) (cases_eq i (length s.rules));
      marks = marked_wider sets (s.rules ++ (r ∷ [])) (length s.rules) a.held s.marks (rw (take_at s.rules (r ∷ []) (length s.rules) refl) good.marks);
    }
  where
    rules : List Rule
    rules = s.rules ++ (r ∷ [])

    within : (i : ℕ) → i < length rules → (i ≡ length s.rules → ⊥) → i < length s.rules
    within i l n = omega (arith, simp length-append at l)

    -- the last rule is the new one, and the others are as they were
    at_each : (P : Rule → Type 0) (i : ℕ) → i < length rules → P r → (i < length s.rules → P (get_or s.rules i missing)) → P (get_or rules i missing)
    at_each P i l new old =
        ⊎_elim (λ e. subst P (sym (get_or_push s.rules r missing i (sym e))) new) (λ n. let b = within i l n in subst P (sym (get_or_append_left s.rules (r ∷ []) missing i b)) (old b)) (cases_eq i (length s.rules))

    absent : (i : ℕ) → holds i (put (length s.rules) s.waiting) ≡ false → holds i s.waiting ≡ false
    absent i h = ⊎_elim (λ y. absurd (both_ways (holds i (put (length s.rules) s.waiting)) h (put_old i (length s.rules) s.waiting y))) (λ n. n) (cases_Bool (holds i s.waiting))

    old : s.impossible ≡ false → (i : ℕ) → i < length rules → holds i (put (length s.rules) s.waiting) ≡ false → (i ≡ length s.rules → ⊥) → (get_or rules i missing).narrow s.table ≡ narrowed s.table
    old p i l h n =
        let b = within i l n in
        subst (λ (x : Rule). x.narrow s.table ≡ narrowed s.table) (sym (get_or_append_left s.rules (r ∷ []) missing i b)) (good.calm p i b (absent i h))

-- what is steady or fits after a cut did so before
steady_before : (sets : List ℤ → Type 0) (asked : Table) (rules : List Rule) (j : ℕ) (g : List ℤ) (V : Table) → j < length asked → Steady sets (met asked j g) rules V → Steady sets asked rules V
steady_before sets asked rules j g V l h = record { kinds = h.kinds; inside = inside_trans h.inside (met_inside asked j g l); calm = h.calm }

fits_before : (asked : Table) (rules : List Rule) (j : ℕ) (g : List ℤ) (p : Placing) → j < length asked → Fits (met asked j g) rules p → Fits asked rules p
fits_before asked rules j g p l h = record { inside = places_inside p (met asked j g) asked h.inside (met_inside asked j g l); allowed = h.allowed }

-- the windows met alike
sound_cut : (sets : List ℤ → Type 0) (asked : Table) (rules : List Rule) (b : Bool) (T : Table) (j : ℕ) (g : List ℤ) → j < length T → sets (meet (window T j) g) → Sound sets asked rules b T → Sound sets (met asked j g) rules b (met T j g)
sound_cut sets asked rules b T j g l k sound =
    record {
      kinds = every_set sets T j (meet (window T j) g) sound.kinds k;
      long = length-set T j (meet (window T j) g) ∙ sound.long ∙ sym (length-set asked j (meet (window asked j) g));
      inside = λ p. inside_met T asked (met T j g) j g l' (sym sound.long) (inside_refl (met T j g)) (inside_trans (met_inside T j g l) (sound.inside p));
      above = λ V h. let q = sound.above V (steady_before sets asked rules j g V l' h) in (q.0, inside_met asked T V j g l sound.long h.inside q.1);
      fits = λ p h. let q = sound.fits p (fits_before asked rules j g p l' h) in (q.0, places_met asked T p j g l sound.long h.inside q.1);
    }
  where
    l' : j < length asked
    l' = let e = sound.long in omega arith

-- nothing is shared: what is asked of window j is empty
sound_none : (sets : List ℤ → Type 0) (asked : Table) (rules : List Rule) (b : Bool) (T : Table) (j : ℕ) (g : List ℤ) → ProperSets sets → j < length T → meet (window T j) g ≡ [] → Sound sets asked rules b T → Sound sets (met asked j g) rules true T
sound_none sets asked rules b T j g proper l e sound =
    record {
      kinds = sound.kinds;
      long = sound.long ∙ sym (length-set asked j (meet (window asked j) g));
      inside = λ h. absurd (both_ways true h refl);
      above = λ V h. absurd (no_table V h);
      fits = λ p h. absurd (no-placing p h);
    }
  where
    l' : j < length asked
    l' = let e = sound.long in omega arith

    empty : window (met T j g) j ≡ []
    empty = get_or-set_same T j (meet (window T j) g) [] l ∙ e

    no_table : (V : Table) → Steady sets (met asked j g) rules V → ⊥
    no_table V h =
        let q = (sound.above V (steady_before sets asked rules j g V l' h)).1 in
        let r : Inside V (met T j g) = inside_met asked T V j g l sound.long h.inside q in
        let none : window V j ≡ [] = none_within (window V j) (λ v i. rw empty at (r.each j v i)) in
        proper.some (subst sets none (h.kinds j (let m = q.long in omega arith)))

    no-placing : (p : Placing) → Fits (met asked j g) rules p → ⊥
    no-placing p h =
        let q = (sound.fits p (fits_before asked rules j g p l' h)).1 in
        let r : Places p (met T j g) = places_met asked T p j g l sound.long h.inside q in
        never (rw empty at (r.each j (simp length-set l)))

-- window j is met, and every rule that reads it waits, unless it is the same
cut_some : (sets : List ℤ → Type 0) (j : ℕ) (g : List ℤ) (a : Ask) (s : State) (w : List ℕ) → j < length s.table → sets (meet (window s.table j) g) → ((i : ℕ) → i < length s.rules → holds i w ≡ false → (holds i s.waiting ≡ false) × (((get_or s.rules i missing).reads j ≡ false) ⊎ (window s.table j ≡ meet (window s.table j) g))) → Good sets a s → Good sets (ask_cut j g a) (at s (met s.table j g) w)
cut_some sets j g a s w l k waits good =
    record {
      same = good.same;
      few = good.few;
      lawful = good.lawful;
      sound = sound;
      calm = λ p i b h. let q = waits i b h in calm_still sets (get_or s.rules i missing) s.table (met s.table j g) (good.lawful i) good.sound.kinds sound.kinds (sym (length-set s.table j m)) (alike i q.1) (good.calm p i b q.0);
      marks = good.marks;
    }
  where
    m : List ℤ
    m = meet (window s.table j) g

    sound : Sound sets (met a.asked j g) s.rules s.impossible (met s.table j g)
    sound = sound_cut sets a.asked s.rules s.impossible s.table j g l k good.sound

    alike : (i : ℕ) → ((get_or s.rules i missing).reads j ≡ false) ⊎ (window s.table j ≡ m) → (q : ℕ) → (get_or s.rules i missing).reads q ≡ true → window s.table q ≡ window (met s.table j g) q
    alike i o = at_set s.table j m (λ q t. (get_or s.rules i missing).reads q ≡ true → window s.table q ≡ t) l (λ h. ⊎_elim (λ n. absurd (both_ways ((get_or s.rules i missing).reads j) n h)) (λ e. e) o) (λ q n h. refl)

cutting_good : (sets : List ℤ → Type 0) (j : ℕ) (g : List ℤ) (a : Ask) (s : State) → ProperSets sets → j < length s.table → sets g → Good sets a s → Good sets (ask_cut j g a) (cutting j g s).after
cutting_good sets j g a s proper l k good = go (meet (window s.table j) g) refl
  where
    old : List ℤ
    old = window s.table j

    go : (m : List ℤ) → meet old g ≡ m → Good sets (ask_cut j g a) (cut_to j s m).after
    go [] e =
        record {
          same = good.same;
          few = good.few;
          lawful = good.lawful;
          sound = sound_none sets a.asked s.rules s.impossible s.table j g proper l e good.sound;
          calm = λ h. absurd (both_ways true h refl);
          marks = good.marks;
        }
    go (v ∷ m) e = ways (same_set old (v ∷ m)) refl
      where
        kinds : sets (meet old g)
        kinds = proper.meets old g (good.sound.kinds j l) k (λ n. omega (arith, ap length (sym n ∙ e)))

        f : ℕ → Bool
        f = reads_at s.rules j

        ways : (b : Bool) → same_set old (v ∷ m) ≡ b → Good sets (ask_cut j g a) (cond {A = Cut} b (record { answer = Unchanged; after = s }) (record { answer = Changed; after = at s (set s.table j (v ∷ m)) (puts f (length s.rules) s.waiting) })).after
        ways true q =
            let same : meet old g ≡ old = e ∙ sym (same_set_is old (v ∷ m) q) in
            subst (λ (T : Table). Good sets (ask_cut j g a) (at s T s.waiting)) (ap (set s.table j) same ∙ set-get_or s.table j []) (cut_some sets j g a s s.waiting l kinds (λ i b h. (h, inr (sym same))) good)
        ways false q = subst (λ (t : List ℤ). Good sets (ask_cut j g a) (at s (set s.table j t) (puts f (length s.rules) s.waiting))) e (cut_some sets j g a s (puts f (length s.rules) s.waiting) l kinds (λ i b h. let x = puts_absent f (length s.rules) i s.waiting good.few b h in (x.1, inl x.0)) good)

marking_good : (sets : List ℤ → Type 0) (a : Ask) (s : State) → Good sets a s → Good sets (ask_marked s.handed a) (marking s)
marking_good sets a s good =
    let e : take (length s.rules) s.rules ≡ s.rules = take_all (length s.rules) s.rules (omega arith) in
    record {
      same = good.same;
      few = good.few;
      lawful = good.lawful;
      sound = good.sound;
      calm = good.calm;
      marks = (refl, omega arith, e ∙ good.same, subst (λ (rs : List Rule). Sound sets a.asked rs s.impossible s.table) (sym e) good.sound, subst (λ (rs : List Rule). Marked sets rs a.held s.marks) (sym e) good.marks);
    }

keeping_good : (sets : List ℤ → Type 0) (m : ℕ) (a : Ask) (s : State) → Good sets a s → (hs : List Held) (cs : List Copy) → Marked sets s.rules hs cs → Good sets (ask_kept_at m a hs) (keeping_at m s cs)
keeping_good sets m a s good [] [] mk = good
keeping_good sets m a s good [] (c ∷ cs) mk = absurd mk
keeping_good sets m a s good (h ∷ hs) [] mk = absurd mk
keeping_good sets m a s good (h ∷ hs) (c ∷ cs) mk = go (eqb m h.number) (eqb m c.number) (ap (eqb m) mk.0) (keeping_good sets m a s good hs cs wider)
  where
    wider : Marked sets s.rules hs cs
    wider = marked_wider sets s.rules c.count hs cs mk.4

    go : (p q : Bool) → p ≡ q → Good sets (ask_kept_at m a hs) (keeping_at m s cs) → Good sets (cond p (record { asked = a.asked; standing = a.standing; held = hs }) (ask_kept_at m a hs)) (cond q (with_marks s cs) (keeping_at m s cs))
    go true true e ih = record { same = good.same; few = good.few; lawful = good.lawful; sound = good.sound; calm = good.calm; marks = wider }
    go true false e ih = absurd (both_ways true e refl)
    go false true e ih = absurd (both_ways false refl e)
    go false false e ih = ih

restored_good : (sets : List ℤ → Type 0) (a : Ask) (s : State) (h : Held) (c : Copy) (hs : List Held) (cs : List Copy) → Good sets a s → Marked sets s.rules (h ∷ hs) (c ∷ cs) → Good sets (record { asked = h.asked; standing = h.standing; held = hs }) (restored s c cs)
restored_good sets a s h c hs cs good mk =
    record {
      same = mk.2;
      few = few;
      lawful = lawful_all sets rules (λ i b. subst (Lawful sets) (sym (get_or-take c.count s.rules i missing (omega (arith, long)))) (good.lawful i));
      sound = mk.3;
      calm = λ _ i b n. absurd (both_ways (holds i (all_waiting rules)) n (all_wait rules i few b));
      marks = mk.4;
    }
  where
    rules : List Rule
    rules = take c.count s.rules

    long : length rules ≤ c.count
    long = omega (arith, length-take c.count s.rules)

    few : length rules ≤ 64
    few = let f = good.few in omega (arith, length-take c.count s.rules)

back_good : (sets : List ℤ → Type 0) (m : ℕ) (a : Ask) (s : State) → Good sets a s → (hs : List Held) (cs : List Copy) → Marked sets s.rules hs cs → Good sets (ask_back_at m a hs) (taking_back_at m s cs)
back_good sets m a s good [] [] mk = good
back_good sets m a s good [] (c ∷ cs) mk = absurd mk
back_good sets m a s good (h ∷ hs) [] mk = absurd mk
back_good sets m a s good (h ∷ hs) (c ∷ cs) mk = go (eqb m h.number) (eqb m c.number) (ap (eqb m) mk.0) (back_good sets m a s good hs cs (marked_wider sets s.rules c.count hs cs mk.4))
  where
    go : (p q : Bool) → p ≡ q → Good sets (ask_back_at m a hs) (taking_back_at m s cs) → Good sets (cond p (record { asked = h.asked; standing = h.standing; held = hs }) (ask_back_at m a hs)) (cond q (restored s c cs) (taking_back_at m s cs))
    go true true e ih = restored_good sets a s h c hs cs good mk
    go true false e ih = absurd (both_ways true e refl)
    go false true e ih = absurd (both_ways false refl e)
    go false false e ih = ih

-- Every state that calls lead to has the invariant.
pub reached_good : (sets : List ℤ → Type 0) (choice : List ℕ → ℕ) → ProperSets sets → Chooses choice → (a : Ask) (s : State) → Reached sets choice a s → Good sets a s
reached_good sets choice proper chooses a s (made rules T few laws kinds) = making_good sets rules T few laws kinds
reached_good sets choice proper chooses a s (posted r a' s' room law h) = posting_good sets r a' s' room law (reached_good sets choice proper chooses a' s' h)
reached_good sets choice proper chooses a s (cut j g a' s' l k h) = cutting_good sets j g a' s' proper l k (reached_good sets choice proper chooses a' s' h)
reached_good sets choice proper chooses a s (settled a' s' h) = (settling_ran sets choice proper chooses a' s' (reached_good sets choice proper chooses a' s' h)).good
reached_good sets choice proper chooses a s (marked a' s' h) = marking_good sets a' s' (reached_good sets choice proper chooses a' s' h)
reached_good sets choice proper chooses a s (kept m a' s' h) = let g = reached_good sets choice proper chooses a' s' h in keeping_good sets m a' s' g a'.held s'.marks g.marks
reached_good sets choice proper chooses a s (back m a' s' h) = let g = reached_good sets choice proper chooses a' s' h in back_good sets m a' s' g a'.held s'.marks g.marks

-- In every such state each placing that fits lies inside the windows, and while the plan is impossible none fits.
pub reached_holds : (sets : List ℤ → Type 0) (choice : List ℕ → ℕ) → ProperSets sets → Chooses choice → (a : Ask) (s : State) → Reached sets choice a s → HoldsAll a s
reached_holds sets choice proper chooses a s h =
    record { inside = λ p f. (g.sound.fits p (as-rules p f)).1; none = λ i p f. both_ways s.impossible (g.sound.fits p (as-rules p f)).0 i }
  where
    g : Good sets a s
    g = reached_good sets choice proper chooses a s h

    as-rules : (p : Placing) → Fits a.asked a.standing p → Fits a.asked s.rules p
    as-rules p f = subst (λ (rs : List Rule). Fits a.asked rs p) (sym g.same) f
