-- Worked examples: windows and rules, and what settling them comes to.
use Rattle.std.specs.Prelude.{List, [], ◌∷◌, ◌++◌, map, Bool, true, false, ◌&&◌, ℕ, eqb, ℤ, pos, neg_ℤ}
use Rattle.windows.specs.Sets.{range, same_set}
use Rattle.windows.specs.Kinds.{spans}
use Rattle.rulebook.specs.Tables.{Table}
use Rattle.rulebook.specs.Rules.{Rule}
use Rattle.rules.specs.Pointwise.{rule_of}
use Rattle.pairs.specs.Pairs.{differ_rule, same_rule}
use Rattle.sums.specs.Sums.{sum_rule}
use Rattle.sums.specs.declared.posted.Term.{Term}
use Rattle.products.specs.Products.{product_rule}
use Rattle.steps.specs.Steps.{step_rule}
use Rattle.policies.specs.Waiting.{first, lowest}
use Rattle.plan.specs.Settling.{Run, settling}
use Rattle.plan.specs.Calls.{making}
use Rattle.plan.specs.declared.answer.Verdict.{Verdict}
use Rattle.plan.specs.declared.answer.Verdict.TheVariants.{Settled, Impossible}

-- a plan of these windows and rules, the choice of its policy, and what settling it is to answer and to leave
pub record Example : Type 0 where
  pub windows : Table
  pub rules : List Rule
  pub choice : List ℕ → ℕ
  pub verdict : Verdict
  pub after : Table

-- is it the same verdict
abbrev pub same_verdict : Verdict → Verdict → Bool
same_verdict (Settled m) (Settled n) = eqb m n
same_verdict (Settled m) (Impossible n i j) = false
same_verdict (Impossible m h g) (Settled n) = false
same_verdict (Impossible m h g) (Impossible n i j) = eqb m n && (eqb h i && eqb g j)

-- have the two tables the same windows
abbrev pub same_table : Table → Table → Bool
same_table [] [] = true
same_table [] (s ∷ U) = false
same_table (s ∷ T) [] = false
same_table (s ∷ T) (t ∷ U) = same_set s t && same_table T U

-- has the run this verdict, and does it leave this table
abbrev pub comes_to : Run → Verdict → Table → Bool
comes_to r v U = same_verdict r.verdict v && same_table r.after.table U

-- does settling the plan come to what the example says
abbrev pub stands : Example → Bool
stands e = comes_to (settling e.choice (making e.rules e.windows)) e.verdict e.after

-- do all examples stand
unfoldable pub all_stand : List Example → Bool
all_stand [] = true
all_stand (e ∷ es) = stands e && all_stand es

-- the example under both policies, first-come before lowest-first
abbrev pub both : Table → List Rule → Verdict → Verdict → Table → List Example
both T rules v w U = record { windows = T; rules = rules; choice = first; verdict = v; after = U } ∷ (record { windows = T; rules = rules; choice = lowest; verdict = w; after = U } ∷ [])

-- under both policies it settles, in n steps
abbrev pub settles : Table → List Rule → ℕ → Table → List Example
settles T rules n U = both T rules (Settled n) (Settled n) U

-- all whole numbers from lo to hi
abbrev pub span : ℕ → ℕ → List ℤ
span lo hi = range (pos lo) (pos hi)

-- the set of these numbers
abbrev pub numbers : List ℕ → List ℤ
numbers ns = map pos ns

-- the number below 0
abbrev pub minus : ℕ → ℤ
minus n = neg_ℤ (pos n)

-- weight times the number of window j
abbrev pub term : ℤ → ℕ → Term
term weight j = record { window = j; weight = weight }

-- the rules by their names
abbrev pub at_most : List Term → ℤ → Rule
at_most ts b = rule_of (sum_rule ts b false)

abbrev pub equals : List Term → ℤ → Rule
equals ts b = rule_of (sum_rule ts b true)

abbrev pub differ : ℕ → ℕ → Rule
differ p q = rule_of (differ_rule spans p q)

abbrev pub same : ℕ → ℕ → Rule
same p q = rule_of (same_rule p q)

abbrev pub product : ℕ → ℕ → ℕ → Rule
product p q r = rule_of (product_rule p q r)

abbrev pub step : ℤ → ℕ → ℕ → Rule
step k p q = rule_of (step_rule k p q)

-- all examples; where a plan fails, the windows stay as they were before the failing step
unfoldable pub examples : List Example
examples =
    settles (span 1 20 ∷ span 9 11 ∷ span 155 161 ∷ []) (product 0 1 2 ∷ []) 5 (span 16 16 ∷ span 10 10 ∷ span 160 160 ∷ []) ++
    settles (range (minus 3) (pos 3) ∷ range (minus 1) (pos 1) ∷ span 1 2 ∷ []) (product 0 1 2 ∷ []) 2 (range (minus 2) (pos 2) ∷ range (minus 1) (pos 1) ∷ span 1 2 ∷ []) ++
    both (span 5 5 ∷ span 0 0 ∷ span 1 9 ∷ []) (product 0 1 2 ∷ []) (Impossible 1 0 0) (Impossible 1 0 0) (span 5 5 ∷ span 0 0 ∷ span 1 9 ∷ []) ++
    settles (span 0 20 ∷ span 1 2 ∷ span 0 1 ∷ []) (at_most (term (pos 3) 0 ∷ term (pos 4) 1 ∷ term (minus 5) 2 ∷ []) (pos 7) ∷ []) 2 (span 0 2 ∷ span 1 2 ∷ span 0 1 ∷ []) ++
    settles (span 540 660 ∷ span 600 645 ∷ span 3 3 ∷ []) (equals (term (pos 1) 1 ∷ term (minus 1) 0 ∷ []) (pos 40) ∷ []) 2 (span 560 605 ∷ span 600 645 ∷ span 3 3 ∷ []) ++
    settles (range (minus 9) (pos 9) ∷ []) (at_most (term (pos 2) 0 ∷ []) (minus 7) ∷ []) 2 (range (minus 9) (minus 4) ∷ []) ++
    both (span 0 9 ∷ span 0 9 ∷ []) (at_most (term (pos 1) 0 ∷ term (minus 1) 1 ∷ []) (minus 1) ∷ at_most (term (pos 1) 1 ∷ term (minus 1) 0 ∷ []) (minus 1) ∷ []) (Impossible 6 1 0) (Impossible 9 1 0) (span 4 4 ∷ span 5 5 ∷ []) ++
    settles (span 4 9 ∷ span 4 4 ∷ []) (differ 0 1 ∷ []) 2 (span 5 9 ∷ span 4 4 ∷ []) ++
    settles (span 4 9 ∷ span 6 6 ∷ []) (differ 0 1 ∷ []) 1 (span 4 9 ∷ span 6 6 ∷ []) ++
    settles (span 0 9 ∷ span 4 12 ∷ []) (same 0 1 ∷ []) 2 (span 4 9 ∷ span 4 9 ∷ []) ++
    settles (numbers (0 ∷ 1 ∷ 63 ∷ []) ∷ numbers (1 ∷ 2 ∷ 5 ∷ []) ∷ []) (step (pos 1) 0 1 ∷ []) 2 (numbers (0 ∷ 1 ∷ []) ∷ numbers (1 ∷ 2 ∷ []) ∷ []) ++
    both (numbers (0 ∷ 1 ∷ []) ∷ numbers (0 ∷ 1 ∷ []) ∷ []) (step (minus 2) 0 1 ∷ []) (Impossible 1 0 0) (Impossible 1 0 0) (numbers (0 ∷ 1 ∷ []) ∷ numbers (0 ∷ 1 ∷ []) ∷ [])
