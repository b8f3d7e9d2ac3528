-- Settling keeps the invariant, ends within its steps, and answers what was asked.
use Rattle.std.proofs.Common.{◌≡◌, ℕ, zero, suc, ◌+◌, ◌-◌, ◌*◌, ◌<◌, ◌≤◌, Bool, true, false, ◌&&◌, ◌⊎◌, List, [], ◌∷◌, length, get_or, ℤ, sym, refl, ap, ◌∙◌, subst, inl, inr, ⊎_elim, mul-le-mul_left, mul-suc, arith}
use native.Mathlib.Nat.{mul-sub}
use Rattle.std.proofs.lemmas.Bool.{cases_Bool, both_ways, cases_eq, and_left, not_from_true}
use Rattle.std.proofs.lemmas.List.{nil_from_length}
use Rattle.windows.specs.Sets.{same_set, sizes}
use Rattle.windows.specs.SpanLaws.{same_set_self}
use Rattle.rulebook.specs.Tables.{Table, window, Inside, Every, differs}
use Rattle.rulebook.specs.Rules.{Rule, Outcome, narrowed, emptied, missing, Lawful}
use Rattle.plan.specs.Steady.{Steady}
use Rattle.policies.specs.Waiting.{holds, remove, Chooses}
use Rattle.plan.specs.States.{State, at, failed}
use Rattle.plan.specs.Settling.{touched, woken, Step, done, went, stuck, narrowing, step_at, step, Run, onward, run, enough, steps, settling}
use Rattle.plan.specs.Asking.{Ask, Widest, NoTable, Answered}
use Rattle.plan.specs.declared.answer.Verdict.TheVariants.{Settled, Impossible}
use Rattle.plan.proofs.ProperSets.{ProperSets}
use Rattle.plan.proofs.TableLaws.{shrunk, every_rising}
use Rattle.policies.specs.WaitingLaws.{puts_absent, puts_long, puts_none, remove_long, remove_other}
use Rattle.plan.proofs.AnyLaws.{any_all}
use Rattle.plan.proofs.RuleLaws.{agree, calm_still, calm_self}
use Rattle.plan.proofs.Goodness.{Sound, Good, sound_narrowed, sound_emptied}

-- nothing is woken by what is no change
pub untouched : (T : Table) (r : Rule) → touched T T r ≡ false
untouched T r = any_all (λ j. differs T T j && r.reads j) (length T) (λ j. and_left (differs T T j) (r.reads j) (not_from_true (same_set (window T j) (window T j)) (same_set_self (window T j))))

-- one narrowing is paid for: by the rule that was taken, or by the fall of a size
paid : (rules : List Rule) (T U : Table) (w v : List ℕ) → suc (length v) ≡ length w → (sizes U < sizes T) ⊎ (U ≡ T) → length rules * sizes U + suc (length (woken rules T U v)) ≤ length rules * sizes T + length w
paid rules T U w v l (inl h) =
    let n : ℕ = length rules in
    let long = puts_long (λ i. touched T U (get_or rules i missing)) n v in
    let fall : n * suc (sizes U) ≤ n * sizes T = mul-le-mul_left n h in
    omega (arith, mul-suc n (sizes U))
paid rules T U w v l (inr e) =
    let none : woken rules T U v ≡ v = puts_none (λ i. touched T U (get_or rules i missing)) (length rules) v (λ i. rw e (untouched T (get_or rules i missing))) in
    omega (arith, ap length none, ap (λ (V : Table). length rules * sizes V) e)

went_good : (sets : List ℤ → Type 0) (a : Ask) (s : State) (i : ℕ) (U : Table) (w : List ℕ) → Good sets a s → s.impossible ≡ false → s.waiting ≡ w → (get_or s.rules i missing).narrow s.table ≡ narrowed U → Good sets a (at s U (woken s.rules s.table U (remove i w)))
went_good sets a s i U w good possible e q =
    record {
      same = good.same;
      few = good.few;
      lawful = good.lawful;
      sound = subst (λ (b : Bool). Sound sets a.asked s.rules b U) (sym possible) sound;
      calm = λ _ k b h. calm k b (puts_absent (λ k. touched s.table U (get_or s.rules k missing)) (length s.rules) k (remove i w) good.few b h);
      marks = good.marks;
    }
  where
    T : Table
    T = s.table

    before : Sound sets a.asked s.rules false T
    before = subst (λ (b : Bool). Sound sets a.asked s.rules b T) possible good.sound

    sound : Sound sets a.asked s.rules false U
    sound = sound_narrowed sets a.asked s.rules T U i (good.lawful i) before q

    long : length T ≡ length U
    long = sym ((good.lawful i).shrinks T U good.sound.kinds q).1.long

    absent : (k : ℕ) → (k ≡ i → ⊥) → holds k (remove i w) ≡ false → holds k s.waiting ≡ false
    absent k n h = ⊎_elim (λ y. absurd (both_ways (holds k (remove i w)) h (remove_other k i w n (rw e at y)))) (λ n. n) (cases_Bool (holds k s.waiting))

    calm : (k : ℕ) → k < length s.rules → (touched T U (get_or s.rules k missing) ≡ false) × (holds k (remove i w) ≡ false) → (get_or s.rules k missing).narrow U ≡ narrowed U
    calm k b h = ⊎_elim self other (cases_eq k i)
      where
        self : k ≡ i → (get_or s.rules k missing).narrow U ≡ narrowed U
        self e = calm_self sets (get_or s.rules k missing) T U (good.lawful k) good.sound.kinds (rw e q) h.0

        other : (k ≡ i → ⊥) → (get_or s.rules k missing).narrow U ≡ narrowed U
        other n = calm_still sets (get_or s.rules k missing) T U (good.lawful k) good.sound.kinds sound.kinds long (agree (get_or s.rules k missing) T U long h.0) (good.calm possible k b (absent k n h.1))

stuck_good : (sets : List ℤ → Type 0) (a : Ask) (s : State) (i j : ℕ) (w : List ℕ) → Good sets a s → s.impossible ≡ false → (get_or s.rules i missing).narrow s.table ≡ emptied j → Good sets a (failed s w)
stuck_good sets a s i j w good possible q =
    record {
      same = good.same;
      few = good.few;
      lawful = good.lawful;
      sound = sound_emptied sets a.asked s.rules s.table i j (good.lawful i) (subst (λ (b : Bool). Sound sets a.asked s.rules b s.table) possible good.sound) q;
      calm = λ h. absurd (both_ways true h refl);
      marks = good.marks;
    }

-- What settling needs to end: windows of the sets, and lawful rules.
pub record Ready (sets : List ℤ → Type 0) (s : State) : Type 0 where
  pub few : length s.rules ≤ 64
  pub lawful : (i : ℕ) → Lawful sets (get_or s.rules i missing)
  pub kinds : Every sets s.table

pub ready : (sets : List ℤ → Type 0) (a : Ask) (s : State) → Good sets a s → Ready sets s
ready sets a s good = record { few = good.few; lawful = good.lawful; kinds = good.sound.kinds }

-- what one step spends
abbrev pub Spent : (List ℤ → Type 0) → State → Step → Type 0
Spent sets s done = s.waiting ≡ []
Spent sets s (went t) = Ready sets t × (t.rules ≡ s.rules) × (enough t < enough s) × (sizes t.table ≤ sizes s.table)
Spent sets s (stuck i j t) = (t.rules ≡ s.rules) × (enough t < enough s) × (t.table ≡ s.table)

pub step_spent : (sets : List ℤ → Type 0) (choice : List ℕ → ℕ) → ProperSets sets → Chooses choice → (s : State) → Ready sets s → Spent sets s (step choice s)
step_spent sets choice proper chooses s r = from s.waiting refl
  where
    from : (w : List ℕ) → s.waiting ≡ w → Spent sets s (step_at choice s w)
    from [] e = e
    from (x ∷ v) e = narrows ((get_or s.rules (choice (x ∷ v)) missing).narrow s.table) refl
      where
        w : List ℕ
        w = x ∷ v

        i : ℕ
        i = choice w

        long : length s.waiting ≡ length w
        long = ap length e

        taken : suc (length (remove i w)) ≡ length w
        taken = remove_long i w (chooses x v)

        narrows : (o : Outcome) → (get_or s.rules i missing).narrow s.table ≡ o → Spent sets s (narrowing s i (remove i w) o)
        narrows (narrowed U) q = (record { few = r.few; lawful = r.lawful; kinds = shrinks.0 }, refl, omega (arith, long, paid s.rules s.table U w (remove i w) taken less), ⊎_elim (λ h. omega arith) (λ (h : U ≡ s.table). omega (arith, ap sizes h)) less)
          where
            shrinks : Every sets U × Inside U s.table
            shrinks = (r.lawful i).shrinks s.table U r.kinds q

            less : (sizes U < sizes s.table) ⊎ (U ≡ s.table)
            less = shrunk s.table U (every_rising s.table proper r.kinds) (every_rising U proper shrinks.0) shrinks.1
        narrows (emptied j) q = (refl, omega (arith, long, taken), refl)

-- what one step leaves
abbrev After : (List ℤ → Type 0) → Ask → State → Step → Type 0
After sets a s done = s.waiting ≡ []
After sets a s (went t) = Good sets a t × (t.impossible ≡ false)
After sets a s (stuck i j t) = Good sets a t × (t.impossible ≡ true)

step_after : (sets : List ℤ → Type 0) (choice : List ℕ → ℕ) (a : Ask) (s : State) → Good sets a s → s.impossible ≡ false → After sets a s (step choice s)
step_after sets choice a s good possible = from s.waiting refl
  where
    from : (w : List ℕ) → s.waiting ≡ w → After sets a s (step_at choice s w)
    from [] e = e
    from (x ∷ v) e = narrows ((get_or s.rules (choice (x ∷ v)) missing).narrow s.table) refl
      where
        w : List ℕ
        w = x ∷ v

        i : ℕ
        i = choice w

        narrows : (o : Outcome) → (get_or s.rules i missing).narrow s.table ≡ o → After sets a s (narrowing s i (remove i w) o)
        narrows (narrowed U) q = (went_good sets a s i U w good possible e q, possible)
        narrows (emptied j) q = (stuck_good sets a s i j (remove i w) good possible q, refl)

-- the windows of a possible plan in which no rule waits
pub widest : (sets : List ℤ → Type 0) (a : Ask) (s : State) → Good sets a s → s.impossible ≡ false → s.waiting ≡ [] → Widest sets a s.table
widest sets a s good possible e =
    subst (λ (rules : List Rule). Widest sets (record { asked = a.asked; standing = rules; held = a.held }) s.table) good.same
    (record {
      steady =
          record {
            kinds = good.sound.kinds;
            inside = good.sound.inside possible;
            calm = λ i b. good.calm possible i b (ap (holds i) e);
          };
      widest = λ V h. (good.sound.above V h).1;
    })

pub no_table : (sets : List ℤ → Type 0) (a : Ask) (s : State) → Good sets a s → s.impossible ≡ true → NoTable sets a
no_table sets a s good h V v =
    both_ways s.impossible (good.sound.above V (subst (λ (rules : List Rule). Steady sets a.asked rules V) (sym good.same) v)).0 h

-- what a run leaves, n steps being behind it
pub record Ran (sets : List ℤ → Type 0) (a : Ask) (r : Run) : Type 0 where
  pub good : Good sets a r.after
  pub answered : Answered sets a r.verdict r.after.table

settled_ran : (sets : List ℤ → Type 0) (a : Ask) (s : State) (n : ℕ) → Good sets a s → s.impossible ≡ false → s.waiting ≡ [] → Ran sets a (record { verdict = Settled n; after = s })
settled_ran sets a s n good possible e =
    record { good = good; answered = let w = widest sets a s good possible e in (w, λ none. none s.table w.steady) }

ran : (sets : List ℤ → Type 0) (choice : List ℕ → ℕ) → ProperSets sets → Chooses choice → (a : Ask) (k n : ℕ) (s : State) → Good sets a s → s.impossible ≡ false → enough s ≤ k → Ran sets a (run choice k n s)
ran sets choice proper chooses a zero n s good possible l = settled_ran sets a s n good possible (nil_from_length s.waiting (omega arith))
ran sets choice proper chooses a (suc k) n s good possible l = go (step choice s) (step_spent sets choice proper chooses s (ready sets a s good)) (step_after sets choice a s good possible) (ran sets choice proper chooses a k (suc n))
  where
    go : (t : Step) → Spent sets s t → After sets a s t → ((u : State) → Good sets a u → u.impossible ≡ false → enough u ≤ k → Ran sets a (run choice k (suc n) u)) → Ran sets a (onward n s (run choice k (suc n)) t)
    go done p q ih = settled_ran sets a s n good possible q
    go (went u) p q ih = ih u q.0 q.1 (let h = p.2 in omega arith)
    go (stuck i j u) p q ih = record { good = q.0; answered = no_table sets a u q.0 q.1 }

-- Settling keeps the invariant and answers what was asked.
pub settling_ran : (sets : List ℤ → Type 0) (choice : List ℕ → ℕ) → ProperSets sets → Chooses choice → (a : Ask) (s : State) → Good sets a s → Ran sets a (settling choice s)
settling_ran sets choice proper chooses a s good = go s.impossible refl
  where
    go : (b : Bool) → s.impossible ≡ b → Ran sets a (elim b [ true ↦ record { verdict = Impossible 0 64 64; after = s } | false ↦ run choice (enough s) 0 s ])
    go true e = record { good = good; answered = no_table sets a s good e }
    go false e = ran sets choice proper chooses a (enough s) 0 s good e (omega arith)

-- Each step is paid for by the rule that was taken or by a fall in the sum of all sizes.
pub record Costs (s : State) (n : ℕ) (r : Run) : Type 0 where
  pub rules : r.after.rules ≡ s.rules
  pub sizes_fall : sizes r.after.table ≤ sizes s.table
  pub steps_paid : steps r.verdict + length s.rules * sizes r.after.table ≤ n + enough s

run_costs : (sets : List ℤ → Type 0) (choice : List ℕ → ℕ) → ProperSets sets → Chooses choice → (k n : ℕ) (s : State) → Ready sets s → Costs s n (run choice k n s)
run_costs sets choice proper chooses zero n s r = record { rules = refl; sizes_fall = omega arith; steps_paid = omega arith }
run_costs sets choice proper chooses (suc k) n s r = go (step choice s) (step_spent sets choice proper chooses s r) (run_costs sets choice proper chooses k (suc n))
  where
    go : (t : Step) → Spent sets s t → ((u : State) → Ready sets u → Costs u (suc n) (run choice k (suc n) u)) → Costs s n (onward n s (run choice k (suc n)) t)
    go done p ih = record { rules = refl; sizes_fall = omega arith; steps_paid = omega arith }
    go (went u) p ih =
        let c = ih u p.0 in
        let e : length u.rules ≡ length s.rules = ap length p.1 in
        let h = c.steps_paid in
        let l = p.2 in
        let z = p.3 in
        let f = c.sizes_fall in
        record { rules = c.rules ∙ p.1; sizes_fall = omega arith; steps_paid = omega (arith, ap (λ (m : ℕ). m * sizes (run choice k (suc n) u).after.table) e) }
    go (stuck i j u) p ih =
        let l = p.1 in
        record { rules = p.0; sizes_fall = omega (arith, ap sizes p.2); steps_paid = omega (arith, ap (λ (V : Table). length s.rules * sizes V) p.2, ap (λ (q : List Rule). length q * sizes u.table) p.0) }

pub settling_costs : (sets : List ℤ → Type 0) (choice : List ℕ → ℕ) → ProperSets sets → Chooses choice → (s : State) → Ready sets s → Costs s 0 (settling choice s)
settling_costs sets choice proper chooses s r = go s.impossible
  where
    go : (b : Bool) → Costs s 0 (elim b [ true ↦ record { verdict = Impossible 0 64 64; after = s } | false ↦ run choice (enough s) 0 s ])
    go true = record { rules = refl; sizes_fall = omega arith; steps_paid = omega arith }
    go false = run_costs sets choice proper chooses (enough s) 0 s r

-- steps are at most the rules that waited, and for each fall of one in the sum of all sizes all rules
pub step_bound : (sets : List ℤ → Type 0) (choice : List ℕ → ℕ) → ProperSets sets → Chooses choice → (s : State) → Ready sets s → steps (settling choice s).verdict ≤ length s.waiting + length s.rules * (sizes s.table - sizes (settling choice s).after.table)
step_bound sets choice proper chooses s r =
    let c = settling_costs sets choice proper chooses s r in
    let h = c.steps_paid in
    let f = c.sizes_fall in
    omega (arith, mul-sub (length s.rules) (sizes s.table) (sizes (settling choice s).after.table))
