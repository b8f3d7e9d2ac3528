-- The loop that settles, turn by turn: what it has left to do is the rest of the run.
use Rattle.std.proofs.Common.{◌≡◌, ℕ, zero, suc, ◌+◌, ◌-◌, ◌*◌, ◌^◌, ◌<◌, ◌≤◌, true, false, ◌&&◌, ltb, List, [], ◌∷◌, length, get_or, ℤ, Some, None, Ok, Err, Option, sym, refl, ap, ◌∙◌, subst, ⊎_elim, mul-le-mul, add-one, arith}
use Rattle.std.proofs.lemmas.Bool.{cond-true, and_left, le-ltb, cases_lt}
use Rattle.windows.specs.Sets.{sizes}
use Rattle.rulebook.specs.Tables.{Table, Every, differs, all_filled}
use Rattle.rulebook.specs.Rules.{Rule, Outcome, narrowed, emptied, missing, Lawful}
use Rattle.rulebook.specs.Answers.{any, bit, member, outcome, Tells}
use Rattle.rulebook.specs.declared.set.WindowSet.{WindowSet}
use Rattle.rulebook.specs.declared.answer.Emptied.{Emptied}
use Rattle.policies.specs.Waiting.{remove, Chooses, puts, Taken, taking}
use Rattle.plan.specs.States.{Copy, state}
use Rattle.plan.specs.Settling.{touched, woken, went, stuck, narrowing, step, Run, onward, run, Runs}
use Rattle.plan.specs.Rows.{hits, wakes}
use Rattle.plan.specs.declared.answer.Verdict.TheVariants.{Settled, Impossible}
use Rattle.plan.proofs.RuleLaws.{lawful_all}
use Rattle.plan.proofs.TableLaws.{few_in_all}
use Rattle.policies.specs.WaitingLaws.{puts_none, puts_like}
use Rattle.plan.proofs.ProperSets.{ProperSets}
use Rattle.plan.proofs.AnyLaws.{any_none, any_all, any_like}
use Rattle.plan.proofs.BoardLaws.{all_filled_from}
use Rattle.plan.proofs.SettlingLaws.{Ready, Spent, step_spent}

-- the number that a policy takes, and the list that it leaves
abbrev taken : (List ℕ → ℕ) → List ℕ → Option ℕ
taken choice w = (taking choice w).answer

abbrev left : (List ℕ → ℕ) → List ℕ → List ℕ
left choice w = (taking choice w).after

-- the step that a turn of the loop takes
step_went : (choice : List ℕ → ℕ) (rules : List Rule) (w : List ℕ) (T U : Table) (i : ℕ) (z : ℕ) (cs : List Copy) (h : ℕ) → taken choice w ≡ Some i → (get_or rules i missing).narrow T ≡ narrowed U → step choice (state rules w false T z cs h) ≡ went (state rules (woken rules T U (left choice w)) false U z cs h)
step_went choice rules [] T U i z cs h e q = cc
step_went choice rules (x ∷ w) T U i z cs h e q =
    let c : choice (x ∷ w) ≡ i = cc in
    ap (narrowing (state rules (x ∷ w) false T z cs h) (choice (x ∷ w)) (remove (choice (x ∷ w)) (x ∷ w))) (ap (λ (k : ℕ). (get_or rules k missing).narrow T) c ∙ q)

step_stuck : (choice : List ℕ → ℕ) (rules : List Rule) (w : List ℕ) (T : Table) (i j : ℕ) (z : ℕ) (cs : List Copy) (h : ℕ) → taken choice w ≡ Some i → (get_or rules i missing).narrow T ≡ emptied j → step choice (state rules w false T z cs h) ≡ stuck i j (state rules (left choice w) true T z cs h)
step_stuck choice rules [] T i j z cs h e q = cc
step_stuck choice rules (x ∷ w) T i j z cs h e q =
    let c : choice (x ∷ w) ≡ i = cc in
    ap (narrowing (state rules (x ∷ w) false T z cs h) (choice (x ∷ w)) (remove (choice (x ∷ w)) (x ∷ w))) (ap (λ (k : ℕ). (get_or rules k missing).narrow T) c ∙ q) ∙ ap (λ (k : ℕ). stuck k j (state rules (remove (choice (x ∷ w)) (x ∷ w)) true T z cs h)) c

some_waits : (choice : List ℕ → ℕ) (w : List ℕ) (i : ℕ) → taken choice w ≡ Some i → 0 < length w
some_waits choice [] i e = cc
some_waits choice (x ∷ w) i e = omega arith

none_waits : (choice : List ℕ → ℕ) (w : List ℕ) → taken choice w ≡ None → w ≡ []
none_waits choice [] e = refl
none_waits choice (x ∷ w) e = cc

run_none : (choice : List ℕ → ℕ) (rules : List Rule) (T : Table) (k n : ℕ) (z : ℕ) (cs : List Copy) (h : ℕ) → run choice k n (state rules [] false T z cs h) ≡ record { verdict = Settled n; after = state rules [] false T z cs h }
run_none choice rules T zero n z cs h = refl
run_none choice rules T (suc k) n z cs h = refl

-- From w₀ and T₀ the loop has come to w and T in some steps.
pub record Running (sets : List ℤ → Type 0) (choice : List ℕ → ℕ) (rules : List Rule) (w₀ : List ℕ) (T₀ : Table) (steps : ℕ) (w : List ℕ) (T : Table) : Type 0 where
  pub kinds : Every sets T
  pub spent : steps + (length rules * sizes T + length w) ≤ length rules * sizes T₀ + length w₀
  pub rest : (z : ℕ) (cs : List Copy) (h : ℕ) → run choice (length rules * sizes T₀ + length w₀) 0 (state rules w₀ false T₀ z cs h) ≡ run choice (length rules * sizes T₀ + length w₀ - steps) steps (state rules w false T z cs h)

module _ (sets : List ℤ → Type 0) (choice : List ℕ → ℕ) (proper : ProperSets sets) (chooses : Chooses choice) (rules : List Rule) (few : length rules ≤ 64) (lawful : (i : ℕ) → i < length rules → Lawful sets (get_or rules i missing)) where
  is_ready : (w : List ℕ) (T : Table) → Every sets T → Ready sets (state rules w false T 0 [] 0)
  is_ready w T k = record { few = few; lawful = lawful_all sets rules lawful; kinds = k }

  -- one turn that narrowed
  pub turned : (w₀ : List ℕ) (T₀ : Table) (n : ℕ) (w : List ℕ) (T U : Table) (i : ℕ) (v : List ℕ) → Running sets choice rules w₀ T₀ n w T → taken choice w ≡ Some i → (get_or rules i missing).narrow T ≡ narrowed U → v ≡ woken rules T U (left choice w) → Running sets choice rules w₀ T₀ (n + 1) v U
  turned w₀ T₀ n w T U i v r e q x =
      let s = subst (Spent sets (state rules w false T 0 [] 0)) (step_went choice rules w T U i 0 [] 0 e q) (step_spent sets choice proper chooses (state rules w false T 0 [] 0) (is_ready w T r.kinds)) in
      let less = s.2 in
      let long : length v ≡ length (woken rules T U (left choice w)) = ap length x in
      let spent = r.spent in
      let waits = some_waits choice w i e in
      record {
        kinds = s.0.kinds;
        spent = omega arith;
        rest = λ z cs h. r.rest z cs h ∙ ap (λ (k : ℕ). run choice k n (state rules w false T z cs h)) {y = suc (length rules * sizes T₀ + length w₀ - (n + 1))} (omega arith) ∙ ap (onward n (state rules w false T z cs h) (run choice (length rules * sizes T₀ + length w₀ - (n + 1)) (suc n))) (step_went choice rules w T U i z cs h e q) ∙ ap (λ (m : ℕ). run choice (length rules * sizes T₀ + length w₀ - (n + 1)) m (state rules (woken rules T U (left choice w)) false U z cs h)) (sym (add-one n)) ∙ ap (λ (u : List ℕ). run choice (length rules * sizes T₀ + length w₀ - (n + 1)) (n + 1) (state rules u false U z cs h)) (sym x);
      }

  pub falls : (w : List ℕ) (T U : Table) (i : ℕ) (v : List ℕ) → Every sets T → taken choice w ≡ Some i → (get_or rules i missing).narrow T ≡ narrowed U → v ≡ woken rules T U (left choice w) → length rules * sizes U + length v < length rules * sizes T + length w
  falls w T U i v k e q x =
      let less = (subst (Spent sets (state rules w false T 0 [] 0)) (step_went choice rules w T U i 0 [] 0 e q) (step_spent sets choice proper chooses (state rules w false T 0 [] 0) (is_ready w T k))).2 in
      let long : length v ≡ length (woken rules T U (left choice w)) = ap length x in
      omega arith

  -- the turn that emptied a window
  pub emptied_turn : (w₀ : List ℕ) (T₀ : Table) (n : ℕ) (w : List ℕ) (T U : Table) (i j : ℕ) (v : List ℕ) → Running sets choice rules w₀ T₀ n w T → taken choice w ≡ Some i → (get_or rules i missing).narrow T ≡ emptied j → v ≡ left choice w → U ≡ T → Runs choice rules w₀ T₀ (Impossible (n + 1) i j) v U
  emptied_turn w₀ T₀ n w T U i j v r e q x y z cs h =
      let spent = r.spent in
      let waits = some_waits choice w i e in
      let ending : ℕ → List ℕ → Table → Run = λ m u V. record { verdict = Impossible m i j; after = state rules u true V z cs h } in
      r.rest z cs h ∙ ap (λ (k : ℕ). run choice k n (state rules w false T z cs h)) {y = suc (length rules * sizes T₀ + length w₀ - (n + 1))} (omega arith) ∙ ap (onward n (state rules w false T z cs h) (run choice (length rules * sizes T₀ + length w₀ - (n + 1)) (suc n))) (step_stuck choice rules w T i j z cs h e q) ∙ ap (λ (m : ℕ). ending m (left choice w) T) (sym (add-one n)) ∙ ap (λ (u : List ℕ). ending (n + 1) u T) (sym x) ∙ ap (ending (n + 1) v) (sym y)

  -- no rule waits any more
  pub last_turn : (w₀ : List ℕ) (T₀ : Table) (n : ℕ) (w : List ℕ) (T : Table) (v : List ℕ) → Running sets choice rules w₀ T₀ n w T → taken choice w ≡ None → v ≡ left choice w → Runs choice rules w₀ T₀ (Settled n) v T
  last_turn w₀ T₀ n w T v r e x z cs h =
      let none = none_waits choice w e in
      r.rest z cs h ∙ ap (λ (u : List ℕ). run choice (length rules * sizes T₀ + length w₀ - n) n (state rules u false T z cs h)) none ∙ run_none choice rules T (length rules * sizes T₀ + length w₀ - n) n z cs h ∙ ap {B = Run} (λ (u : List ℕ). record { verdict = Settled n; after = state rules u false T z cs h }) (sym (x ∙ ap (left choice) none))

  -- the count of steps does not overflow
  pub no_overflow : (w₀ : List ℕ) (T₀ : Table) (n : ℕ) (w : List ℕ) (T : Table) (i : ℕ) → Every sets T₀ → length T₀ ≤ 64 → length w₀ ≤ 64 → Running sets choice rules w₀ T₀ n w T → taken choice w ≡ Some i → n + 1 < 2 ^ 64
  no_overflow w₀ T₀ n w T i k l m r e =
      let spent = r.spent in
      let waits = some_waits choice w i e in
      let sum = few_in_all T₀ proper k in
      let small : sizes T₀ ≤ 128000064 = omega arith in
      let most : length rules * sizes T₀ ≤ 64 * 128000064 = mul-le-mul few small in
      omega arith

-- what a narrowing of these windows told
pub told_changed : (T U : Table) (o : Outcome) (m : WindowSet) → Tells T o (Ok m) U → (o ≡ narrowed U) × ((j : ℕ) → member m j ≡ differs T U j)
told_changed T U (narrowed V) m t = (ap narrowed (sym t.0), t.1)
told_changed T U (emptied j) m t = absurd t

pub told_emptied : (T U : Table) (o : Outcome) (e : Emptied) → Tells T o (Err e) U → (o ≡ emptied e.window) × (U ≡ T)
told_emptied T U (narrowed V) e t = absurd t
told_emptied T U (emptied j) e t = (ap emptied (sym t.0), t.1)

pub outcome_is : (sets : List ℤ → Type 0) (r : Rule) (T : Table) → ProperSets sets → Every sets T → outcome r T ≡ r.narrow T
outcome_is sets r T proper k = cond-true (all_filled T) (r.narrow T) (narrowed T) (all_filled_from sets T proper.some k)

-- a set with no window wakes no rule
pub nothing_woken : (rules : List Rule) (m : WindowSet) (n : ℕ) (w : List ℕ) → any (member m) 64 ≡ false → puts (wakes rules m n) (length rules) w ≡ w
nothing_woken rules m n w e = puts_none (wakes rules m n) (length rules) w (λ i. any_all (hits rules m i) n (λ j. and_left (member m j) ((get_or rules i missing).reads j) (absent j)))
  where
    absent : (j : ℕ) → member m j ≡ false
    absent j = ⊎_elim (λ l. any_none (member m) 64 j e l) (λ l. and_left (ltb j 64) (bit m.mask j) (le-ltb j 64 l)) (cases_lt j 64)

-- the set is that of the changed windows
changed_woken : (rules : List Rule) (T U : Table) (m : WindowSet) (n : ℕ) (w v : List ℕ) → n ≡ length T → ((j : ℕ) → member m j ≡ differs T U j) → v ≡ puts (wakes rules m n) (length rules) w → v ≡ woken rules T U w
changed_woken rules T U m n w v l bits x = x ∙ puts_like (wakes rules m n) (λ i. touched T U (get_or rules i missing)) (length rules) w (λ i. ap (any (hits rules m i)) l ∙ any_like (hits rules m i) (λ j. differs T U j && (get_or rules i missing).reads j) (length T) (λ j b. ap (λ t. t && (get_or rules i missing).reads j) (bits j)))

-- what a turn owes: the loop has come one step further, and less is left
pub record Turned (sets : List ℤ → Type 0) (choice : List ℕ → ℕ) (rules : List Rule) (w₀ : List ℕ) (T₀ : Table) (n : ℕ) (w : List ℕ) (T : Table) (v : List ℕ) (U : Table) : Type 0 where
  pub again : Running sets choice rules w₀ T₀ (n + 1) v U
  pub less : length rules * sizes U + length v < length rules * sizes T + length w

module _ (sets : List ℤ → Type 0) (choice : List ℕ → ℕ) (proper : ProperSets sets) (chooses : Chooses choice) (rules : List Rule) (few : length rules ≤ 64) (lawful : (i : ℕ) → i < length rules → Lawful sets (get_or rules i missing)) (w₀ : List ℕ) (T₀ : Table) (n : ℕ) (w : List ℕ) (T : Table) (r : Running sets choice rules w₀ T₀ n w T) (i : ℕ) (u : List ℕ) (e : taking choice w ≡ record { answer = Some i; after = u }) (U : Table) where
  is_taken : taken choice w ≡ Some i
  is_taken = ap (λ (t : Taken). t.answer) e

  is_left : u ≡ left choice w
  is_left = sym (ap (λ (t : Taken). t.after) e)

  is_outcome : outcome (get_or rules i missing) T ≡ (get_or rules i missing).narrow T
  is_outcome = outcome_is sets (get_or rules i missing) T proper r.kinds

  pub changed_turn : (v : List ℕ) (m : WindowSet) (windows : ℕ) → windows ≡ length T → Tells T (outcome (get_or rules i missing) T) (Ok m) U → v ≡ puts (wakes rules m windows) (length rules) u → Turned sets choice rules w₀ T₀ n w T v U
  changed_turn v m windows l tells woke =
      let t = told_changed T U (outcome (get_or rules i missing) T) m tells in
      let q : (get_or rules i missing).narrow T ≡ narrowed U = sym is_outcome ∙ t.0 in
      let y : v ≡ woken rules T U (left choice w) = changed_woken rules T U m windows (left choice w) v l t.1 (woke ∙ ap (puts (wakes rules m windows) (length rules)) is_left) in
      record { again = turned sets choice proper chooses rules few lawful w₀ T₀ n w T U i v r is_taken q y; less = falls sets choice proper chooses rules few lawful w T U i v r.kinds is_taken q y }

  pub emptied_end : (f : Emptied) → Tells T (outcome (get_or rules i missing) T) (Err f) U → Runs choice rules w₀ T₀ (Impossible (n + 1) i f.window) u U
  emptied_end f tells =
      let t = told_emptied T U (outcome (get_or rules i missing) T) f tells in
      emptied_turn sets choice proper chooses rules few lawful w₀ T₀ n w T U i f.window u r is_taken (sym is_outcome ∙ t.0) is_left t.1
