-- Kinds of window: which sets are windows of a kind, and what every kind owes.
use Rattle.std.specs.Prelude.{◌≡◌, ◌<◌, List, [], length, ℤ, pos, negsuc, ◌≤ℤ◌}
use Rattle.windows.specs.Sets.{In, Within, Rising, hull, remove}

-- a kind of window: the smallest set of the kind around a set, and the numbers that its windows may hold
pub record Kind : Type 0 where
  pub around : List ℤ → List ℤ
  pub lowest : ℤ
  pub highest : ℤ

-- s is a window of the kind: rising, never empty, and nothing has to be added to make it one
pub record Of (k : Kind) (s : List ℤ) : Type 0 where
  pub rising : Rising s
  pub some : 0 < length s
  pub closed : k.around s ≡ s
  pub bounded : (v : ℤ) → In v s → (k.lowest ≤ℤ v) × (v ≤ℤ k.highest)

-- what a kind owes: `around` adds what is missing and no more, and every number is between -1,000,000 and 1,000,000
pub record Proper (k : Kind) : Type 0 where
  pub holds : (s : List ℤ) → Within s (k.around s)
  pub mono : (s t : List ℤ) → Within s t → Within (k.around s) (k.around t)
  pub again : (s : List ℤ) → k.around (k.around s) ≡ k.around s
  pub rising : (s : List ℤ) → Rising s → Rising (k.around s)
  pub none : k.around [] ≡ []
  pub from : negsuc 999999 ≤ℤ k.lowest
  pub to : k.highest ≤ℤ pos 1000000

-- t is the smallest window of the kind that holds all numbers of s
pub record Smallest (k : Kind) (s t : List ℤ) : Type 0 where
  pub window : Of k t
  pub holds : Within s t
  pub least : (u : List ℤ) → Of k u → Within s u → Within t u

-- the smallest window of the kind with all numbers of s but v; nothing where no other number is left
unfoldable pub all_but : Kind → List ℤ → ℤ → List ℤ
all_but k s v = k.around (remove v s)

-- the span kind: all whole numbers from one to another
abbrev pub spans : Kind
spans = record { around = hull; lowest = negsuc 999999; highest = pos 1000000 }
