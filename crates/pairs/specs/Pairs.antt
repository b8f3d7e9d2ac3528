-- Rules on two windows of any kind.
use Rattle.std.specs.Prelude.{◌≡◌, ℕ, suc, ◌<◌, min, max, Bool, false, cond, not, ◌&&◌, ◌||◌, List, [], ◌∷◌, ℤ, Some, None, Option, ◌==◌, nat_lt}
use Rattle.windows.specs.Sets.{eq_z, meet, sole_of}
use Rattle.windows.specs.Kinds.{Kind, all_but}
use Rattle.rulebook.specs.Tables.{Table, window, place, filled}
use Rattle.rulebook.specs.declared.answer.BookRefusal.{BookRefusal}
use Rattle.rulebook.specs.declared.answer.BookRefusal.TheVariants.{Window, Repeated}
use Rattle.rules.specs.Pointwise.{Pointwise, Entry}

-- two windows that a table can have
abbrev pub Apart : ℕ → ℕ → Type 0
Apart p q = (p < 64) × (q < 64) × ((p == q) ≡ false)

-- is j one of the two windows
abbrev pub pair_reads : ℕ → ℕ → ℕ → Bool
pair_reads p q j = p == j || q == j

-- window p becomes f of the two windows, window q becomes g of them, and the others stay
abbrev pub pair_new : (List ℤ → List ℤ → List ℤ) → (List ℤ → List ℤ → List ℤ) → ℕ → ℕ → Table → ℕ → List ℤ
pair_new f g p q T j = cond (p == j) (f (window T p) (window T q)) (cond (q == j) (g (window T p) (window T q)) (window T j))

abbrev pub pair_rule : (List ℤ → List ℤ → List ℤ) → (List ℤ → List ℤ → List ℤ) → (ℤ → ℤ → Bool) → ℕ → ℕ → Pointwise
pair_rule f g allows p q = record { reads = pair_reads p q; reach = max (suc p) (suc q); allows = λ P. allows (place P p) (place P q); new = pair_new f g p q }

-- the new windows that are written: none where one of the two windows has no numbers
abbrev pub pair_entries : (List ℤ → List ℤ → List ℤ) → (List ℤ → List ℤ → List ℤ) → ℕ → ℕ → Table → List Entry
pair_entries f g p q T = cond (filled (window T p) && filled (window T q)) (record { at = p; new = f (window T p) (window T q) } ∷ (record { at = q; new = g (window T p) (window T q) } ∷ [])) []

-- the window s without this number, if there is one: the smallest window of the kind with all its other numbers
abbrev pub without : Kind → List ℤ → Option ℤ → List ℤ
without k s None = s
without k s (Some v) = all_but k s v

-- s loses the sole number of t
abbrev pub lose_sole : Kind → List ℤ → List ℤ → List ℤ
lose_sole k s t = without k s (sole_of t)

-- differ: the two numbers are not the same; a window loses the sole number of the other (rule DISEQUALITY 3, over spans SIMPLE
-- DISEQUALITY 2 and 3)
abbrev pub differ_rule : Kind → ℕ → ℕ → Pointwise
differ_rule k = pair_rule (λ s t. lose_sole k s t) (λ s t. lose_sole k t s) (λ v w. not (eq_z v w))

abbrev pub differ_entries : Kind → ℕ → ℕ → Table → List Entry
differ_entries k = pair_entries (λ s t. lose_sole k s t) (λ s t. lose_sole k t s)

-- same: the two numbers are the same; both windows become what they share (rule EQUALITY 2)
abbrev pub same_rule : ℕ → ℕ → Pointwise
same_rule = pair_rule (λ s t. meet s t) (λ s t. meet s t) (λ v w. eq_z v w)

abbrev pub same_entries : ℕ → ℕ → Table → List Entry
same_entries = pair_entries (λ s t. meet s t) (λ s t. meet s t)

-- what a rule on windows p and q of n is refused for: a window that is not there, then one that stands twice
abbrev pub pair_asks : ℕ → ℕ → ℕ → Option BookRefusal
pair_asks p q n = cond (nat_lt p (min n 64) && nat_lt q (min n 64)) (cond (p == q) (Some Repeated) None) (Some Window)
