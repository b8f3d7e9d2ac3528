-- Lists of waiting rules, as a policy keeps them.
use Rattle.std.specs.Prelude.{◌≡◌, ℕ, zero, suc, min, Bool, true, false, cond, not, ◌&&◌, ◌||◌, List, [], ◌∷◌, ◌++◌, Some, None, Option, ◌==◌, nat_lt}

-- does rule i wait
abbrev pub holds : ℕ → List ℕ → Bool
holds i [] = false
holds i (x ∷ w) = i == x || holds i w

-- are all numbers below 64, and none there twice
abbrev pub distinct : List ℕ → Bool
distinct [] = true
distinct (x ∷ w) = nat_lt x 64 && (not (holds x w) && distinct w)

-- an absent number below 64 goes to the end, and any other leaves the list as it is
abbrev pub put : ℕ → List ℕ → List ℕ
put i w = cond (holds i w) w (cond (nat_lt i 64) (w ++ (i ∷ [])) w)

-- the list without rule i
abbrev pub remove : ℕ → List ℕ → List ℕ
remove i [] = []
remove i (x ∷ w) = cond (i == x) w (x ∷ remove i w)

-- puts, rising, each number below n that passes the test
abbrev pub puts : (ℕ → Bool) → ℕ → List ℕ → List ℕ
puts f zero w = w
puts f (suc i) w = cond (f i) (put i (puts f i w)) (puts f i w)

-- a choice names one of the list's numbers
abbrev pub Chooses : (List ℕ → ℕ) → Type 0
Chooses choice = (x : ℕ) (w : List ℕ) → holds (choice (x ∷ w)) (x ∷ w) ≡ true

-- what a taking answers, and the list after it
pub record Taken : Type 0 where
  pub answer : Option ℕ
  pub after : List ℕ

-- takes the number that the choice names, or none out of an empty list
abbrev pub taking : (List ℕ → ℕ) → List ℕ → Taken
taking choice [] = record { answer = None; after = [] }
taking choice (x ∷ w) = record { answer = Some (choice (x ∷ w)); after = remove (choice (x ∷ w)) (x ∷ w) }

-- the number that came first
abbrev pub first : List ℕ → ℕ
first [] = 0
first (x ∷ w) = x

-- the lowest number
abbrev pub lowest : List ℕ → ℕ
lowest [] = 0
lowest (x ∷ []) = x
lowest (x ∷ (y ∷ w)) = min x (lowest (y ∷ w))
