-- Products of signed numbers, by the sign of a factor. (`≤ℤ` binds more tightly than `*ℤ` and `+ℤ`.)
use Rattle.std.proofs.Common.{ℕ, suc, ◌+◌, ◌*◌, ◌≤◌, ◌⊎◌, ℤ, pos, negsuc, ◌*ℤ◌, ◌≤ℤ◌, inl, inr, mul-le-mul_left, mul-add, arith}
use borrow.Author.Differences.{up, down, le_out}
use Rattle.std.proofs.lemmas.Int.{ints}

-- n times a difference
scaled : (n a b c d : ℕ) → a + b ≤ c + d → n * a + n * b ≤ n * c + n * d
scaled n a b c d h = let m = mul-le-mul_left n h in let p = mul-add n a b in let q = mul-add n c d in omega arith

pub mul_up : (n : ℕ) (a b : ℤ) → a ≤ℤ b → (pos n *ℤ a) ≤ℤ (pos n *ℤ b)
mul_up n a b h = let s = scaled n (up a) (down b) (up b) (down a) (le_out a b h) in omega (arith, ints)

pub mul_down : (n : ℕ) (a b : ℤ) → a ≤ℤ b → (negsuc n *ℤ b) ≤ℤ (negsuc n *ℤ a)
mul_down n a b h = let s = scaled (suc n) (up a) (down b) (up b) (down a) (le_out a b h) in omega (arith, ints)

-- w times a number between a and b is between w times a and w times b
pub mul_between : (w a v b : ℤ) → a ≤ℤ v → v ≤ℤ b → (((w *ℤ a) ≤ℤ (w *ℤ v)) × ((w *ℤ v) ≤ℤ (w *ℤ b))) ⊎ (((w *ℤ b) ≤ℤ (w *ℤ v)) × ((w *ℤ v) ≤ℤ (w *ℤ a)))
mul_between (pos n) a v b h k = inl (mul_up n a v h, mul_up n v b k)
mul_between (negsuc n) a v b h k = inr (mul_down n v b k, mul_down n a v h)
