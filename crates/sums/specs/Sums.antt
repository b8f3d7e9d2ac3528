-- The rules "sum equals" and "sum at most": w1·v1 + … + wt·vt against a bound b.
use Rattle.std.specs.Prelude.{ℕ, suc, max, Bool, true, false, cond, not, ◌&&◌, ◌||◌, List, [], ◌∷◌, ℤ, pos, ◌+ℤ◌, ◌-ℤ◌, ◌*ℤ◌, filter, ◌==◌, int_le}
use Rattle.windows.specs.Sets.{least_by, greatest_by}
use Rattle.rulebook.specs.Tables.{Table, Placing, window, place}
use Rattle.rules.specs.Pointwise.{Pointwise}
use Rattle.sums.specs.declared.posted.Term.{Term}
use Rattle.sums.specs.declared.posted.Relation.{Relation}
use Rattle.sums.specs.declared.posted.Relation.TheVariants.{Equals, AtMost}

-- is the sum to equal its bound
abbrev pub is_exact : Relation → Bool
is_exact Equals = true
is_exact AtMost = false

-- is window j one of the terms'
abbrev pub in_terms : List Term → ℕ → Bool
in_terms [] j = false
in_terms (t ∷ ts) j = t.window == j || in_terms ts j

-- one more than the highest window of the terms
abbrev pub terms_reach : List Term → ℕ
terms_reach [] = 0
terms_reach (t ∷ ts) = max (suc t.window) (terms_reach ts)

-- the weight of window j
abbrev pub weight_at : List Term → ℕ → ℤ
weight_at [] j = pos 0
weight_at (t ∷ ts) j = cond (t.window == j) t.weight (weight_at ts j)

-- what a term can be at least, and at most
abbrev pub term_least : Table → Term → ℤ
term_least T t = least_by (λ v. t.weight *ℤ v) (window T t.window)

abbrev pub term_greatest : Table → Term → ℤ
term_greatest T t = greatest_by (λ v. t.weight *ℤ v) (window T t.window)

-- what a term is at a placing
abbrev pub term_at : Placing → Term → ℤ
term_at p t = t.weight *ℤ place p t.window

-- the sum of what f gives each term, and the same without the term of window j
abbrev pub total : (Term → ℤ) → List Term → ℤ
total f [] = pos 0
total f (t ∷ ts) = f t +ℤ total f ts

abbrev pub total_but : (Term → ℤ) → List Term → ℕ → ℤ
total_but f [] j = pos 0
total_but f (t ∷ ts) j = cond (t.window == j) (total_but f ts j) (f t +ℤ total_but f ts j)

-- the smallest and the largest sum that all terms can have
abbrev pub smallest : List Term → Table → ℤ
smallest ts T = total (term_least T) ts

abbrev pub largest : List Term → Table → ℤ
largest ts T = total (term_greatest T) ts

-- the smallest and the largest sum that the terms other than window j's can have
abbrev pub smallest_but : List Term → Table → ℕ → ℤ
smallest_but ts T j = total_but (term_least T) ts j

abbrev pub largest_but : List Term → Table → ℕ → ℤ
largest_but ts T j = total_but (term_greatest T) ts j

-- the sum of a placing
abbrev pub sum_of : List Term → Placing → ℤ
sum_of ts p = total (term_at p) ts

-- is w times v at most high and, where the sum is exact, at least low
abbrev pub weighed : ℤ → Bool → ℤ → ℤ → ℤ → Bool
weighed w exact low high v = int_le (w *ℤ v) high && (not exact || int_le low (w *ℤ v))

-- window j keeps its numbers v for which its weight times v is at most b minus the smallest sum of the other terms and,
-- where the sum is to equal b, at least b minus the largest (rules LINEAR EQUALITY and LINEAR INEQUALITY)
unfoldable pub sum_passes : List Term → ℤ → Bool → Table → ℕ → ℤ → Bool
sum_passes ts b exact T j v = weighed (weight_at ts j) exact (b -ℤ largest_but ts T j) (b -ℤ smallest_but ts T j) v

-- the new window j: a window of no term keeps all its numbers
unfoldable pub sum_new : List Term → ℤ → Bool → Table → ℕ → List ℤ
sum_new ts b exact T j = cond (in_terms ts j) (filter (sum_passes ts b exact T j) (window T j)) (window T j)

-- is the sum of a placing at most b and, where it is to equal b, at least b
abbrev pub sum_allows : List Term → ℤ → Bool → Placing → Bool
sum_allows ts b exact p = int_le (sum_of ts p) b && (not exact || int_le b (sum_of ts p))

-- the rule that the sum of the terms equals b or, unless it is exact, is at most b
abbrev pub sum_rule : List Term → ℤ → Bool → Pointwise
sum_rule ts b exact = record { reads = in_terms ts; reach = terms_reach ts; allows = sum_allows ts b exact; new = sum_new ts b exact }
