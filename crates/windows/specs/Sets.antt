-- Sets of whole numbers, as rising lists: the meaning of a window.
use Rattle.std.specs.Prelude.{◌≡◌, ℕ, zero, suc, ◌+◌, Bool, true, false, not, ◌&&◌, ◌||◌, List, [], ◌∷◌, length, ℤ, pos, negsuc, ◌+ℤ◌, ◌-ℤ◌, ◌<ℤ◌, Some, None, filter, Option, int_le}
use Rattle.std.specs.Int.{int_min, int_max}

-- are the two numbers the same
unfoldable pub eq_z : ℤ → ℤ → Bool
eq_z v w = int_le v w && int_le w v

-- is v one of the numbers
abbrev pub has : List ℤ → ℤ → Bool
has [] v = false
has (x ∷ s) v = eq_z x v || has s v

abbrev pub In : ℤ → List ℤ → Type 0
In v s = has s v ≡ true

-- each number of s is one of t
abbrev pub Within : List ℤ → List ℤ → Type 0
Within s t = (v : ℤ) → In v s → In v t

-- the first number is above v, and each later one above the one before it
abbrev pub Above : ℤ → List ℤ → Type 0
Above v [] = Unit {0}
Above v (x ∷ s) = (v <ℤ x) × Above x s

abbrev pub Rising : List ℤ → Type 0
Rising [] = Unit {0}
Rising (x ∷ s) = Above x s

-- n numbers from lo up
abbrev pub up_from : ℤ → ℕ → List ℤ
up_from lo zero = []
up_from lo (suc n) = lo ∷ up_from (lo +ℤ pos 1) n

-- z, or 0 where z is below it
abbrev pub natural : ℤ → ℕ
natural (pos n) = n
natural (negsuc n) = 0

-- how many numbers there are from lo to hi
unfoldable pub count : ℤ → ℤ → ℕ
count lo hi = natural (hi +ℤ pos 1 -ℤ lo)

-- all whole numbers from lo to hi, none where hi is below lo
unfoldable pub range : ℤ → ℤ → List ℤ
range lo hi = up_from lo (count lo hi)

-- is v from lo to hi
abbrev pub between : ℤ → ℤ → ℤ → Bool
between lo hi v = int_le lo v && int_le v hi

-- the least and the greatest value that f has on the numbers of s, 0 where s has none
abbrev pub least_on : (ℤ → ℤ) → ℤ → List ℤ → ℤ
least_on f x [] = f x
least_on f x (y ∷ s) = int_min (f x) (least_on f y s)

abbrev pub least_by : (ℤ → ℤ) → List ℤ → ℤ
least_by f [] = pos 0
least_by f (x ∷ s) = least_on f x s

abbrev pub greatest_on : (ℤ → ℤ) → ℤ → List ℤ → ℤ
greatest_on f x [] = f x
greatest_on f x (y ∷ s) = int_max (f x) (greatest_on f y s)

abbrev pub greatest_by : (ℤ → ℤ) → List ℤ → ℤ
greatest_by f [] = pos 0
greatest_by f (x ∷ s) = greatest_on f x s

abbrev pub least : List ℤ → ℤ
least s = least_by (λ v. v) s

abbrev pub greatest : List ℤ → ℤ
greatest s = greatest_by (λ v. v) s

-- the smallest span around s
unfoldable pub hull : List ℤ → List ℤ
hull [] = []
hull (x ∷ s) = range (least (x ∷ s)) (greatest (x ∷ s))

-- the numbers that are in both, in the order of s
unfoldable pub meet : List ℤ → List ℤ → List ℤ
meet s t = filter (has t) s

-- all numbers but v
unfoldable pub remove : ℤ → List ℤ → List ℤ
remove v s = filter (λ x. not (eq_z x v)) s

-- the one number of s, none where it has another count of them
abbrev pub sole_of : List ℤ → Option ℤ
sole_of [] = None
sole_of (x ∷ []) = Some x
sole_of (x ∷ (y ∷ s)) = None

-- do the two lists hold the same numbers
abbrev pub same_set : List ℤ → List ℤ → Bool
same_set [] [] = true
same_set [] (y ∷ t) = false
same_set (x ∷ s) [] = false
same_set (x ∷ s) (y ∷ t) = eq_z x y && same_set s t

-- how many numbers the sets have together
abbrev pub sizes : List (List ℤ) → ℕ
sizes [] = 0
sizes (s ∷ ss) = length s + sizes ss
