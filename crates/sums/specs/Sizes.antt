-- How large the numbers are that the code of sums computes with.
use Rattle.std.specs.Prelude.{ℕ, ℤ, pos, negsuc, neg_ℤ, ◌≤ℤ◌, ◌≢◌}

-- a weight that a term may have
abbrev pub Weighs : ℤ → Type 0
Weighs w = (negsuc 9999 ≤ℤ w) × (w ≤ℤ pos 10000) × (w ≢ pos 0)

-- a number of at most b in size
abbrev pub Small : ℕ → ℤ → Type 0
Small b z = (neg_ℤ (pos b) ≤ℤ z) × (z ≤ℤ pos b)
