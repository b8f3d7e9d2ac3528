-- The rule "product": p · q = r, over spans.
use Rattle.std.specs.Prelude.{◌≡◌, ℕ, suc, min, max, Bool, true, false, cond, ◌&&◌, ◌||◌, List, ℤ, pos, negsuc, ◌*ℤ◌, neg_ℤ, Some, None, filter, Option, ◌==◌, int_le, int_lt, nat_lt, unsigned_abs}
use Rattle.std.specs.Int.{int_max}
use Rattle.windows.specs.Sets.{eq_z, between, least_by, greatest_by, least, greatest}
use Rattle.rulebook.specs.Tables.{Table, Placing, window, place}
use Rattle.rulebook.specs.declared.answer.BookRefusal.{BookRefusal}
use Rattle.rulebook.specs.declared.answer.BookRefusal.TheVariants.{Window, Repeated}
use Rattle.rules.specs.Pointwise.{Pointwise}

-- the least and the greatest product of a number of s and one of t
abbrev pub least_product : List ℤ → List ℤ → ℤ
least_product s t = least_by (λ x. least_by (λ y. x *ℤ y) t) s

abbrev pub greatest_product : List ℤ → List ℤ → ℤ
greatest_product s t = greatest_by (λ x. greatest_by (λ y. x *ℤ y) t) s

-- the numbers of u that are in the smallest span around all products of a number of s and one of t (rule MULTIPLICATION 1)
unfoldable pub multiplied : List ℤ → List ℤ → List ℤ → List ℤ
multiplied u s t = filter (between (least_product s t) (greatest_product s t)) u

-- is a/c at most v, and is v at most a/c, for a c that is not 0: by cross-multiplication
abbrev pub quotient_le : ℤ → ℤ → ℤ → Bool
quotient_le a c v = cond (int_lt (pos 0) c) (int_le a (v *ℤ c)) (int_le (v *ℤ c) a)

abbrev pub quotient_ge : ℤ → ℤ → ℤ → Bool
quotient_ge a c v = cond (int_lt (pos 0) c) (int_le (v *ℤ c) a) (int_le a (v *ℤ c))

-- is v between the least and the greatest of a/c, a/d, b/c, b/d: one of them is at most v, and v is at most one of them
abbrev pub among_quotients : ℤ → ℤ → ℤ → ℤ → ℤ → Bool
among_quotients a b c d v =
    (quotient_le a c v || (quotient_le a d v || (quotient_le b c v || quotient_le b d v))) &&
    (quotient_ge a c v || (quotient_ge a d v || (quotient_ge b c v || quotient_ge b d v)))

-- the larger of |a| and |b|
abbrev pub size : ℤ → ℤ → ℤ
size a b = int_max (pos (unsigned_abs a)) (pos (unsigned_abs b))

-- the lower end of a span, and the upper one, once 0 is taken off there
abbrev pub up_from_zero : ℤ → ℤ
up_from_zero c = cond (eq_z c (pos 0)) (pos 1) c

abbrev pub down_from_zero : ℤ → ℤ
down_from_zero d = cond (eq_z d (pos 0)) (negsuc 0) d

-- is v in [a..b] : [c..d], the weak division. With 0 in both spans nothing is cut; else nothing is left where c = d = 0, and
-- [-e..e] where c < 0 < d, e being the larger of |a| and |b|; else 0 is taken off [c..d], and left are the whole numbers
-- between the least and the greatest of a/c, a/d, b/c, b/d
unfoldable pub weakly_divides : ℤ → ℤ → ℤ → ℤ → ℤ → Bool
weakly_divides a b c d v =
    cond (between a b (pos 0) && between c d (pos 0)) true
    (cond (eq_z c (pos 0) && eq_z d (pos 0)) false
    (cond (int_lt c (pos 0) && int_lt (pos 0) d) (between (neg_ℤ (size a b)) (size a b) v)
    (among_quotients a b (up_from_zero c) (down_from_zero d) v)))

-- the numbers of s that are in u : t, for spans u and t (rules MULTIPLICATION 2w and 3w)
unfoldable pub divided : List ℤ → List ℤ → List ℤ → List ℤ
divided s u t = filter (weakly_divides (least u) (greatest u) (least t) (greatest t)) s

-- the new window j: r meets the smallest span around all products, p meets r : q, q meets r : p, and any other stays
unfoldable pub product_new : ℕ → ℕ → ℕ → Table → ℕ → List ℤ
product_new p q r T j =
    cond (r == j) (multiplied (window T r) (window T p) (window T q))
    (cond (p == j) (divided (window T p) (window T r) (window T q))
    (cond (q == j) (divided (window T q) (window T r) (window T p))
    (window T j)))

-- is j one of the three windows
abbrev pub product_reads : ℕ → ℕ → ℕ → ℕ → Bool
product_reads p q r j = r == j || (p == j || q == j)

-- is p times q equal to r in the placing
abbrev pub product_allows : ℕ → ℕ → ℕ → Placing → Bool
product_allows p q r P = eq_z (place P p *ℤ place P q) (place P r)

-- the rule p · q = r
abbrev pub product_rule : ℕ → ℕ → ℕ → Pointwise
product_rule p q r = record { reads = product_reads p q r; reach = max (suc p) (max (suc q) (suc r)); allows = product_allows p q r; new = product_new p q r }

-- are the three numbers below n
abbrev pub all_below : ℕ → ℕ → ℕ → ℕ → Bool
all_below n p q r = nat_lt p n && (nat_lt q n && nat_lt r n)

-- are two of the three numbers equal
abbrev pub repeated : ℕ → ℕ → ℕ → Bool
repeated p q r = p == q || (p == r || q == r)

-- three windows that a table can have
abbrev pub Apart : ℕ → ℕ → ℕ → Type 0
Apart p q r = (all_below 64 p q r ≡ true) × (repeated p q r ≡ false)

-- what the rule on windows p, q and r of n is refused for: a window that is not there, then one that stands twice
abbrev pub product_asks : ℕ → ℕ → ℕ → ℕ → Option BookRefusal
product_asks p q r n = cond (all_below (min n 64) p q r) (cond (repeated p q r) (Some Repeated) None) (Some Window)
