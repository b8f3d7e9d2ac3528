-- What the calls of a rulebook answer, and what they leave.
use Rattle.std.specs.Prelude.{◌≡◌, ℕ, zero, suc, ◌/◌, ◌%◌, ◌^◌, Bool, false, cond, ◌&&◌, ◌||◌, List, [], ◌∷◌, ◌++◌, length, get_or, Some, None, Ok, Err, Option, Result, ◌==◌, nat_lt, slice_index_or}
use Rattle.rulebook.specs.Tables.{Table, differs, all_filled}
use Rattle.rulebook.specs.Rules.{Rule, Outcome, narrowed, emptied, missing}
use Rattle.rulebook.specs.declared.answer.Emptied.{Emptied}
use Rattle.rulebook.specs.declared.answer.BookRefusal.{BookRefusal}
use Rattle.rulebook.specs.declared.answer.BookRefusal.TheVariants as refusal
use Rattle.rulebook.specs.declared.set.WindowSet.{WindowSet}

-- the number that each refusal of a book is told by
abbrev pub book_number : BookRefusal → ℕ
book_number refusal.Full = 4
book_number refusal.Terms = 5
book_number refusal.Window = 6
book_number refusal.Repeated = 7
book_number refusal.Weight = 8
book_number refusal.Bound = 9
book_number refusal.Row = 10

-- is bit j of the number set
abbrev pub bit : ℕ → ℕ → Bool
bit m j = (m / 2 ^ j) % 2 == 1

-- is window j in the set
abbrev pub member : WindowSet → ℕ → Bool
member s j = nat_lt j 64 && bit s.mask j

-- what a rule does to a lent table: where a window has no number, its row fails its check, and nothing is done
abbrev pub outcome : Rule → Table → Outcome
outcome r T = cond (all_filled T) (r.narrow T) (narrowed T)

-- what a narrowing answers: the set of changed windows, maybe none, or the lowest window that it would have emptied
abbrev pub Narrowing : Type 0
Narrowing = Result WindowSet Emptied

-- A narrowing of table T with this outcome gave the answer and left table U: the windows of U that are new are exactly those
-- of the answered set, and Emptied names the lowest window that lost all its numbers and changes nothing.
abbrev pub Tells : Table → Outcome → Narrowing → Table → Type 0
Tells T (narrowed V) (Ok s) U = (U ≡ V) × ((j : ℕ) → member s j ≡ differs T U j)
Tells T (narrowed V) (Err e) U = ⊥
Tells T (emptied j) (Ok s) U = ⊥
Tells T (emptied j) (Err e) U = (e.window ≡ j) × (U ≡ T)

-- the rows of windows that did not change are the very same
abbrev pub RowsKept : {Row : Type 0} → Narrowing → List Row → List Row → Type 0
RowsKept {Row} (Ok s) old new = (j : ℕ) (d : Row) → member s j ≡ false → slice_index_or new j d ≡ slice_index_or old j d
RowsKept {Row} (Err e) old new = new ≡ old

-- what a posting answers, and the rules after it: the new rule's number, at the end, or the refusal and nothing new
pub record Posted : Type 0 where
  pub answer : Result ℕ BookRefusal
  pub after : List Rule

abbrev pub posted : List Rule → Rule → Option BookRefusal → Posted
posted rules r None = record { answer = Ok (length rules); after = rules ++ (r ∷ []) }
posted rules r (Some f) = record { answer = Err f; after = rules }

-- does some number below n pass the test
abbrev pub any : (ℕ → Bool) → ℕ → Bool
any f zero = false
any f (suc n) = any f n || f n

-- does rule i read window j
abbrev pub reads_at : List Rule → ℕ → ℕ → Bool
reads_at rules j i = (get_or rules i missing).reads j

-- one more than the highest window below n that some rule reads, 0 if there is none
abbrev pub reach_of : List Rule → ℕ → ℕ
reach_of rules zero = 0
reach_of rules (suc j) = cond (any (reads_at rules j) (length rules)) (suc j) (reach_of rules j)
