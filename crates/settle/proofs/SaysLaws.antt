-- What a settling says, from what holds of plans that calls lead to.
use Rattle.std.proofs.Common.{◌≡◌, ℕ, zero, suc, ◌<◌, ◌≤◌, Bool, true, false, leb, List, [], ◌∷◌, length, get_or, ℤ, Some, None, Option, Result, sym, refl, ap, ◌∙◌, subst, arith}
use Rattle.windows.specs.Sets.{has}
use Rattle.std.proofs.lemmas.Bool.Decides.{nat_tests}
use Rattle.rulebook.specs.Tables.{Table, Placing, window, place, Places, Every, all_filled}
use Rattle.rulebook.specs.Rules.{Rule, Outcome, narrowed, emptied, Lawful, missing}
use Rattle.rulebook.specs.Answers.{reach_of}
use Rattle.policies.specs.Waiting.{remove, Chooses, first}
use Rattle.plan.specs.Steady.{Fits}
use Rattle.plan.specs.States.{State, at}
use Rattle.plan.specs.Settling.{woken, narrowing, step_at, onward, Run, run, enough, settling, is_impossible}
use Rattle.plan.specs.Calls.{making}
use Rattle.plan.specs.Asking.{ask_made, Reached, made, settled, HoldsAll}
use Rattle.plan.specs.Refusals.{make_refused}
use Rattle.plan.proofs.ProperSets.{ProperSets}
use Rattle.plan.proofs.BoardLaws.{fine}
use Rattle.plan.proofs.SettlingLaws.{settling_ran}
use Rattle.plan.proofs.CallLaws.{reached_good, reached_holds}
use Rattle.plan.specs.declared.answer.PlanRefusal.{PlanRefusal}
use Rattle.plan.specs.declared.answer.Verdict.{Verdict}
use Rattle.plan.specs.declared.answer.Verdict.TheVariants.{Impossible}
use Rattle.settle.specs.Settled.{Ran, ran_unless, ran}
use Rattle.settle.specs.Says.{Says, SaysUnless}

-- ---- the plan is impossible after a settling exactly if that answered so
onward_flag : (choice : List ℕ → ℕ) (n : ℕ) (s : State) (rest : State → Run) → ((t : State) → t.impossible ≡ false → is_impossible (rest t).verdict ≡ (rest t).after.impossible) → s.impossible ≡ false → (w : List ℕ) → is_impossible (onward n s rest (step_at choice s w)).verdict ≡ (onward n s rest (step_at choice s w)).after.impossible
onward_flag choice n s rest more e [] = sym e
onward_flag choice n s rest more e (x ∷ w) = go ((get_or s.rules (choice (x ∷ w)) missing).narrow s.table)
  where
    go : (o : Outcome) → is_impossible (onward n s rest (narrowing s (choice (x ∷ w)) (remove (choice (x ∷ w)) (x ∷ w)) o)).verdict ≡ (onward n s rest (narrowing s (choice (x ∷ w)) (remove (choice (x ∷ w)) (x ∷ w)) o)).after.impossible
    go (narrowed U) = more (at s U (woken s.rules s.table U (remove (choice (x ∷ w)) (x ∷ w)))) e
    go (emptied j) = refl

run_flag : (choice : List ℕ → ℕ) (k n : ℕ) (s : State) → s.impossible ≡ false → is_impossible (run choice k n s).verdict ≡ (run choice k n s).after.impossible
run_flag choice zero n s e = sym e
run_flag choice (suc k) n s e = onward_flag choice n s (run choice k (suc n)) (run_flag choice k (suc n)) e s.waiting

settling_flag : (choice : List ℕ → ℕ) (s : State) → s.impossible ≡ false → is_impossible (settling choice s).verdict ≡ (settling choice s).after.impossible
settling_flag choice s i = go s.impossible i
  where
    go : (b : Bool) → b ≡ false → (let r : Run = elim b [ true ↦ record { verdict = Impossible 0 64 64; after = s } | false ↦ run choice (enough s) 0 s ] in is_impossible r.verdict ≡ r.after.impossible)
    go true e = absurd (let z : ◌≡◌ {A = ℕ} 0 1 = cc in omega arith)
    go false e = run_flag choice (enough s) 0 s i

-- ---- the sentence on missing numbers
missing_from : (T U : Table) (rules : List Rule) → ((p : Placing) → Fits T rules p → Places p U) → (j : ℕ) (n : ℤ) → j < length T → has (window U j) n ≡ false → (p : Placing) → Fits T rules p → place p j ≡ n → ⊥
missing_from T U rules inside j n h m p f e =
    let l : length T ≡ length U = sym f.inside.long ∙ (inside p f).long in
    let i : has (window U j) (place p j) ≡ true = (inside p f).each j (omega arith) in
    let z : ◌≡◌ {A = Bool} true false = sym i ∙ ap (has (window U j)) e ∙ m in
    let y : ◌≡◌ {A = ℕ} 0 1 = cc in
    omega arith

-- ---- a plan of these rules and windows, made and settled
first_chooses : Chooses first
first_chooses x w = grind (arith, nat_tests)

made_says : (sets : List ℤ → Type 0) → ProperSets sets → (rules : List Rule) (T : Table) → length rules ≤ 64 → ((i : ℕ) → i < length rules → Lawful sets (get_or rules i missing)) → Every sets T → Says sets rules T (settling first (making rules T)).verdict (settling first (making rules T)).after.table
made_says sets proper rules T few lawful kinds =
    let a = ask_made rules T in
    let s = making rules T in
    let r : Reached sets first a s = made rules T few lawful kinds in
    let h : HoldsAll a (settling first s).after = reached_holds sets first proper first_chooses a (settling first s).after (settled a s r) in
    record {
      answered = (settling_ran sets first proper first_chooses a s (reached_good sets first proper first_chooses a s r)).answered;
      inside = h.inside;
      missing = missing_from T (settling first s).after.table rules h.inside;
      none = λ m. h.none (sym (settling_flag first s refl) ∙ m);
    }

pub ran_says : (sets : List ℤ → Type 0) → ProperSets sets → (rules : List Rule) (T : Table) (long : ℕ) (r : Result Verdict PlanRefusal) (U : Table) → length rules ≤ 64 → ((i : ℕ) → i < length rules → Lawful sets (get_or rules i missing)) → (all_filled T ≡ true → Every sets T) → ran rules T long ≡ record { answer = r; after = U } → SaysUnless sets rules T r U
ran_says sets proper rules T long r U few lawful kinds e = go (make_refused rules T long) refl e
  where
    says-as : Ran → Type 0
    says-as x = SaysUnless sets rules T x.answer x.after

    go : (o : Option PlanRefusal) → make_refused rules T long ≡ o → ran_unless o rules T ≡ record { answer = r; after = U } → SaysUnless sets rules T r U
    go (Some f) q h = subst says-as h tt
    go None q h = subst says-as h (made_says sets proper rules T few lawful (kinds (fine T long (leb (reach_of rules 64) (length T)) q).windows))
