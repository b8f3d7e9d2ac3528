-- What the calls say of what was asked: the clauses of their contracts.
use Rattle.std.specs.Prelude.{◌≡◌, ℕ, ◌+◌, ◌-◌, ◌*◌, ◌≤◌, false, List, [], length, ℤ, Some, None, Ok, Err, Option, Result}
use Rattle.windows.specs.Sets.{sizes}
use Rattle.rulebook.specs.Tables.{Table}
use Rattle.policies.specs.Waiting.{Chooses}
use Rattle.plan.specs.Steady.{SameRules}
use Rattle.plan.specs.States.{State}
use Rattle.plan.specs.Settling.{settling, Run, steps}
use Rattle.plan.specs.Asking.{Ask, Answered, Reached, HoldsAll, Widest}
use Rattle.plan.specs.declared.answer.Verdict.{Verdict}
use Rattle.plan.specs.declared.answer.Verdict.TheVariants.{Settled, Impossible}
use Rattle.plan.specs.declared.answer.PlanRefusal.{PlanRefusal}

-- a refused call changes nothing of what is asked
abbrev pub if_ok : {A : Type 0} → Result A PlanRefusal → (Ask → Ask) → Ask → Ask
if_ok (Ok x) f a = f a
if_ok (Err e) f a = a

-- a call from state s to state t, by which what is asked becomes f of what was asked, leads on, and every placing that fits is kept
pub record Carries (sets : List ℤ → Type 0) (choice : List ℕ → ℕ) (f : Ask → Ask) (s t : State) : Type 0 where
  pub reached : (a : Ask) → Reached sets choice a s → Reached sets choice (f a) t
  pub holds : (a : Ask) → Reached sets choice a s → HoldsAll (f a) t

-- an accepted making leads to a state for what is asked
abbrev pub Begins : (List ℤ → Type 0) → (List ℕ → ℕ) → Ask → Option PlanRefusal → State → Type 0
Begins sets choice a None t = Reached sets choice a t × HoldsAll a t
Begins sets choice a (Some f) t = Unit {0}

-- a settling that was not refused answers what was asked
abbrev pub Says : (List ℤ → Type 0) → Ask → Result Verdict PlanRefusal → Table → Type 0
Says sets a (Ok v) U = Answered sets a v U
Says sets a (Err f) U = Unit {0}

-- the same for whatever was asked
abbrev pub SaysAll : (List ℤ → Type 0) → (List ℕ → ℕ) → State → Result Verdict PlanRefusal → State → Type 0
SaysAll sets choice s r t = (a : Ask) → Reached sets choice a s → Says sets a r t.table

-- the steps of a settling from s to t are at most the rules that waited, and all rules for each fall of one in the sum of all sizes
abbrev pub WithinSteps : State → Result Verdict PlanRefusal → State → Type 0
WithinSteps s (Ok v) t = steps v ≤ length s.waiting + length s.rules * (sizes s.table - sizes t.table)
WithinSteps s (Err f) t = Unit {0}

-- two settlings answer alike: both Settled beside the same table, or both Impossible
abbrev pub AlikeAnswers : Verdict → Table → Verdict → Table → Type 0
AlikeAnswers (Settled n) T (Settled m) U = T ≡ U
AlikeAnswers (Settled n) T (Impossible m i j) U = ⊥
AlikeAnswers (Impossible n i j) T (Settled m) U = ⊥
AlikeAnswers (Impossible n i j) T (Impossible m k l) U = Unit {0}

-- the same of one that may be refused
abbrev pub AlikeUnless : Result Verdict PlanRefusal → Table → Run → Type 0
AlikeUnless (Ok v) T r = AlikeAnswers v T r.verdict r.after.table
AlikeUnless (Err f) T r = Unit {0}

-- a settling answers as any other does, by any choice, for the same asked windows and the same standing rules in any order
abbrev pub Agrees : (List ℤ → Type 0) → (List ℕ → ℕ) → State → Result Verdict PlanRefusal → State → Type 0
Agrees sets choice s r t = (a : Ask) → Reached sets choice a s → (choice' : List ℕ → ℕ) → Chooses choice' → (a' : Ask) (s' : State) → Reached sets choice' a' s' → a'.asked ≡ a.asked → SameRules a.standing a'.standing → AlikeUnless r t.table (settling choice' s')

-- every placing that fits lies inside what is shown, and where no rule waits in a possible plan the windows are the widest
pub record Shows (sets : List ℤ → Type 0) (a : Ask) (s : State) : Type 0 where
  pub holds : HoldsAll a s
  pub widest : s.impossible ≡ false → s.waiting ≡ [] → Widest sets a s.table

-- the same for whatever was asked
abbrev pub ShowsAll : (List ℤ → Type 0) → (List ℕ → ℕ) → State → Type 0
ShowsAll sets choice s = (a : Ask) → Reached sets choice a s → Shows sets a s
