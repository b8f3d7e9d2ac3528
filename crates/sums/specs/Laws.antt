-- What the sum rules come to, in words of sums and placings.
use Rattle.std.specs.Prelude.{◌≡◌, ℕ, ◌≤◌, Bool, true, false, List, length, ℤ, ◌-ℤ◌, ◌*ℤ◌, ◌≤ℤ◌, Ok, Err, Result}
use Rattle.windows.specs.Sets.{In}
use Rattle.rulebook.specs.Tables.{Table, Placing, window, place, all_filled}
use Rattle.rulebook.specs.Rules.{Means}
use Rattle.rulebook.specs.Answers.{Narrowing}
use Rattle.rulebook.specs.declared.answer.BookRefusal.{BookRefusal}
use Rattle.sums.specs.Sums.{is_exact, in_terms, terms_reach, weight_at, term_at, total_but, smallest_but, largest_but, sum_of}
use Rattle.sums.specs.Questions.{given}
use Rattle.sums.specs.Meaning.{terms_of, sum_meaning}
use Rattle.sums.specs.Steps.{all_read}
use Rattle.sums.specs.declared.posted.Term.{Term}
use Rattle.sums.specs.declared.posted.PostedSum.{PostedSum}
use Rattle.sums.specs.declared.sum.Sum.{Sum}

-- a sum equals the bound where it is to be exact, and else is at most the bound
abbrev pub Meets : Bool → ℤ → ℤ → Type 0
Meets true sum b = sum ≡ b
Meets false sum b = sum ≤ℤ b

-- an accepted sum allows exactly the placings of which the sum, weight times number over the posted terms, meets the bound
abbrev pub SumMeans : PostedSum → Bool → Result Sum BookRefusal → Type 0
SumMeans post exact (Ok s) = Means (sum_meaning s) (λ p. Meets exact (sum_of (given post) p) post.bound)
SumMeans post exact (Err f) = Unit {0}

-- window j keeps v: weight times v is at most b less the smallest and, where the sum is exact, at least b less the largest sum
-- of the other terms
pub record Keeps (ts : List Term) (b : ℤ) (exact : Bool) (T : Table) (j : ℕ) (v : ℤ) : Type 0 where
  pub old : In v (window T j)
  pub most : (weight_at ts j *ℤ v) ≤ℤ (b -ℤ smallest_but ts T j)
  pub least : exact ≡ true → (b -ℤ largest_but ts T j) ≤ℤ (weight_at ts j *ℤ v)

-- window j of U has exactly the numbers that window j of T keeps
pub record Kept (ts : List Term) (b : ℤ) (exact : Bool) (T U : Table) (j : ℕ) : Type 0 where
  pub only : (v : ℤ) → In v (window U j) → Keeps ts b exact T j v
  pub all : (v : ℤ) → Keeps ts b exact T j v → In v (window U j)

-- A narrowing of T by the sum that left U: each window of a term has exactly the numbers that it keeps, where all windows had
-- numbers and those of the terms are in the table; and a window that would be emptied keeps none.
abbrev pub SumKeeps : Sum → Table → Narrowing → Table → Type 0
SumKeeps s T (Ok w) U = all_filled T ≡ true → terms_reach (terms_of s) ≤ length T → (j : ℕ) → in_terms (terms_of s) j ≡ true → Kept (terms_of s) s.bound (is_exact s.relation) T U j
SumKeeps s T (Err e) U = (v : ℤ) → Keeps (terms_of s) s.bound (is_exact s.relation) T e.window v → ⊥

-- the placing has a number out of the window of every term
abbrev pub Takes : List Term → Placing → Table → Type 0
Takes ts p T = (i : ℕ) → in_terms ts i ≡ true → In (place p i) (window T i)

-- the sum of a placing without the term of window j
abbrev pub sum_but : List Term → Placing → ℕ → ℤ
sum_but ts p j = total_but (term_at p) ts j

-- the smallest and the largest sum of the terms other than window j's are sums of placings, and no placing has less or more
pub record ReachedBy (ts : List Term) (T : Table) (j : ℕ) : Type 0 where
  pub smallest : (p : Placing) × Takes ts p T × (sum_but ts p j ≡ smallest_but ts T j)
  pub largest : (p : Placing) × Takes ts p T × (sum_but ts p j ≡ largest_but ts T j)
  pub none_less : (p : Placing) → Takes ts p T → smallest_but ts T j ≤ℤ sum_but ts p j
  pub none_more : (p : Placing) → Takes ts p T → sum_but ts p j ≤ℤ largest_but ts T j

-- so it is for every window j, in every table where the windows of all terms have numbers
abbrev pub SumReached : Sum → Type 0
SumReached s = (T : Table) → all_read (terms_of s) T ≡ true → (j : ℕ) → ReachedBy (terms_of s) T j
