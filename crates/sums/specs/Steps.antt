-- What the steps of a narrowing by a sum answer.
use Rattle.std.specs.Prelude.{◌≡◌, ℕ, Bool, true, false, ◌&&◌, List, [], ◌∷◌, map, ℤ, Some, None, Option, MatchOption}
use Rattle.windows.specs.Sets.{range}
use Rattle.windows.specs.declared.span.Span.{Span}
use Rattle.rulebook.specs.Tables.{Table, window, filled}
use Rattle.sums.specs.Sums.{smallest, largest}
use Rattle.rules.specs.Pointwise.{Entry}
use Rattle.sums.specs.Sizes.{Small}
use Rattle.sums.specs.declared.posted.Term.{Term}
use Rattle.sums.specs.declared.ends.Ends.{Ends}

-- a window with the numbers s; none where there are none
abbrev pub WindowOf : List ℤ → Option Span → Type 0
WindowOf s r = MatchOption r (s ≡ []) (λ w. range w.lo w.hi ≡ s)

-- has the window of every term a number
abbrev pub all_read : List Term → Table → Bool
all_read [] T = true
all_read (t ∷ ts) T = filled (window T t.window) && all_read ts T

-- the least and the greatest sum of the terms, none where the window of a term is missing
abbrev pub ExtremesOf : List Term → Table → Option Ends → Type 0
ExtremesOf ts T None = all_read ts T ≡ false
ExtremesOf ts T (Some e) = (all_read ts T ≡ true) × (e.from ≡ smallest ts T) × (e.to ≡ largest ts T) × Small 80000000000 e.from × Small 80000000000 e.to

-- a new window for the window of each term
abbrev pub entries : (ℕ → List ℤ) → List Term → List Entry
entries new ts = map (λ t. record { at = t.window; new = new t.window }) ts
