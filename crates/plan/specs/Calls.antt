-- What the other calls do to a state, where they are not refused.
use Rattle.std.specs.Prelude.{ℕ, suc, Bool, true, false, cond, List, [], ◌∷◌, ◌++◌, length, take, ℤ, ◌==◌, slice_set}
use Rattle.windows.specs.Sets.{same_set, meet}
use Rattle.rulebook.specs.Tables.{Table, window}
use Rattle.rulebook.specs.Rules.{Rule}
use Rattle.rulebook.specs.Answers.{reads_at}
use Rattle.policies.specs.Waiting.{put, puts}
use Rattle.plan.specs.States.{State, Copy, state, at, failed}
use Rattle.plan.specs.declared.answer.Cutting.{Cutting}
use Rattle.plan.specs.declared.answer.Cutting.TheVariants.{Changed, Unchanged, Impossible}

-- every rule waits, in rising order
abbrev pub all_waiting : List Rule → List ℕ
all_waiting rules = puts (λ _. true) (length rules) []

-- a plan with these rules, all waiting, for these windows
abbrev pub making : List Rule → Table → State
making rules T = state rules (all_waiting rules) false T (length T) [] 0

-- one rule more, at the end, and it waits
abbrev pub posting : Rule → State → State
posting r s = state (s.rules ++ (r ∷ [])) (put (length s.rules) s.waiting) s.impossible s.table s.windows s.marks s.handed

-- what a cut answers, and the state after it
pub record Cut : Type 0 where
  pub answer : Cutting
  pub after : State

-- window j becomes this set, and the rules that read it wait, unless it is the same; if the set is empty the plan is impossible
abbrev pub cut_to : ℕ → State → List ℤ → Cut
cut_to j s [] = record { answer = Impossible; after = failed s s.waiting }
cut_to j s (v ∷ m) = cond (same_set (window s.table j) (v ∷ m)) (record { answer = Unchanged; after = s }) (record { answer = Changed; after = at s (slice_set s.table j (v ∷ m)) (puts (reads_at s.rules j) (length s.rules) s.waiting) })

-- window j is met with g
abbrev pub cutting : ℕ → List ℤ → State → Cut
cutting j g s = cut_to j s (meet (window s.table j) g)

-- one open mark more, which has copied the count of rules, the impossible flag and the table
abbrev pub marking : State → State
marking s = state s.rules s.waiting s.impossible s.table s.windows (record { number = s.handed; count = length s.rules; impossible = s.impossible; table = s.table } ∷ s.marks) (suc s.handed)

-- other open marks
abbrev pub with_marks : State → List Copy → State
with_marks s cs = state s.rules s.waiting s.impossible s.table s.windows cs s.handed

-- is the mark of this number open
abbrev pub is_open : ℕ → List Copy → Bool
is_open m [] = false
is_open m (c ∷ cs) = cond (m == c.number) true (is_open m cs)

-- mark m and all later ones are ended, where it is among these
abbrev pub keeping_at : ℕ → State → List Copy → State
keeping_at m s [] = s
keeping_at m s (c ∷ cs) = cond (m == c.number) (with_marks s cs) (keeping_at m s cs)

-- mark m and all later ones are ended
abbrev pub keeping : ℕ → State → State
keeping m s = keeping_at m s s.marks

-- back to what was copied, with every rule waiting and these marks open
abbrev pub restored : State → Copy → List Copy → State
restored s c cs = state (take c.count s.rules) (all_waiting (take c.count s.rules)) c.impossible c.table s.windows cs s.handed

-- back to mark m, where it is among these
abbrev pub taking_back_at : ℕ → State → List Copy → State
taking_back_at m s [] = s
taking_back_at m s (c ∷ cs) = cond (m == c.number) (restored s c cs) (taking_back_at m s cs)

-- mark m and all later ones are ended, and what mark m copied is put back
abbrev pub taking_back : ℕ → State → State
taking_back m s = taking_back_at m s s.marks
