-- Settling, step by step.
use Rattle.std.specs.Prelude.{◌≡◌, ℕ, zero, suc, ◌+◌, ◌*◌, Bool, true, false, ◌&&◌, List, [], ◌∷◌, length, get_or, slice_index_or}
use Rattle.windows.specs.Sets.{sizes}
use Rattle.rulebook.specs.Tables.{Table, differs}
use Rattle.rulebook.specs.Rules.{Rule, Outcome, narrowed, emptied, missing}
use Rattle.rulebook.specs.Answers.{any}
use Rattle.policies.specs.Waiting.{remove, puts}
use Rattle.plan.specs.States.{State, Copy, state, at, failed}
use Rattle.plan.specs.declared.answer.Verdict.{Verdict}
use Rattle.plan.specs.declared.answer.Verdict.TheVariants.{Settled, Impossible}

-- does the rule read a window that is another one in U
abbrev pub touched : Table → Table → Rule → Bool
touched T U r = any (λ j. differs T U j && r.reads j) (length T)

-- the waiting list after a change from T to U: every rule that reads a changed window is put, rising
abbrev pub woken : List Rule → Table → Table → List ℕ → List ℕ
woken rules T U w = puts (λ i. touched T U (slice_index_or rules i missing)) (length rules) w

-- one step: no rule waits; or a rule was taken and narrowed; or this rule emptied that window
pub data Step : Type 0 where
  done : Step
  went : State → Step
  stuck : ℕ → ℕ → State → Step

-- the step by rule i with this outcome, which leaves w waiting
abbrev pub narrowing : State → ℕ → List ℕ → Outcome → Step
narrowing s i w (narrowed U) = went (at s U (woken s.rules s.table U w))
narrowing s i w (emptied j) = stuck i j (failed s w)

-- the step from this waiting list
abbrev pub step_at : (List ℕ → ℕ) → State → List ℕ → Step
step_at choice s [] = done
step_at choice s (x ∷ w) = narrowing s (choice (x ∷ w)) (remove (choice (x ∷ w)) (x ∷ w)) ((get_or s.rules (choice (x ∷ w)) missing).narrow s.table)

-- takes the rule that the choice names, and narrows by it
abbrev pub step : (List ℕ → ℕ) → State → Step
step choice s = step_at choice s s.waiting

-- what a settling answers, and the state after it
pub record Run : Type 0 where
  pub verdict : Verdict
  pub after : State

-- the run from a step on, n steps being behind it: `rest` goes on from the state that it leaves
abbrev pub onward : ℕ → State → (State → Run) → Step → Run
onward n s rest done = record { verdict = Settled n; after = s }
onward n s rest (went t) = rest t
onward n s rest (stuck i j t) = record { verdict = Impossible (suc n) i j; after = t }

-- the run with n steps behind it, and at most k to come
abbrev pub run : (List ℕ → ℕ) → ℕ → ℕ → State → Run
run choice zero n s = record { verdict = Settled n; after = s }
run choice (suc k) n s = onward n s (run choice k (suc n)) (step choice s)

-- more steps than this no settling takes
abbrev pub enough : State → ℕ
enough s = length s.rules * sizes s.table + length s.waiting

-- takes rules and narrows by them until none waits; an impossible plan is not narrowed
abbrev pub settling : (List ℕ → ℕ) → State → Run
settling choice s = elim s.impossible [ true ↦ record { verdict = Impossible 0 64 64; after = s } | false ↦ run choice (enough s) 0 s ]

-- the steps of a settling
abbrev pub steps : Verdict → ℕ
steps (Settled n) = n
steps (Impossible n i j) = n

-- is the plan impossible after it
abbrev pub is_impossible : Verdict → Bool
is_impossible (Settled n) = false
is_impossible (Impossible n i j) = true

-- a run from waiting list w and table T answers v and leaves waiting list x and table U, whatever else the state holds
abbrev pub Runs : (List ℕ → ℕ) → List Rule → List ℕ → Table → Verdict → List ℕ → Table → Type 0
Runs choice rules w T v x U = (n : ℕ) (cs : List Copy) (h : ℕ) → run choice (enough (state rules w false T n cs h)) 0 (state rules w false T n cs h) ≡ record { verdict = v; after = state rules x (is_impossible v) U n cs h }
