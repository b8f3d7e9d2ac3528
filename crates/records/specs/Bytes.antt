-- Numbers as little-endian bytes.
use Rattle.std.specs.Prelude.{ℕ, ◌+◌, ◌*◌, List, [], ◌∷◌, ℤ, slice_index}
use Rattle.std.specs.Int.{w32}
use Rattle.std.proofs.Common.{to_z}

-- the number that bytes stand for, the lowest byte first
abbrev pub little : List ℕ → ℕ
little [] = 0
little (b ∷ bs) = b + 256 * little bs

-- the four bytes at i
abbrev pub word : List ℕ → ℕ → ℕ
word p i = slice_index p i + slice_index p (i + 1) * 256 + slice_index p (i + 2) * 65536 + slice_index p (i + 3) * 16777216

-- the same as a signed number, in two's complement
abbrev pub int32 : List ℕ → ℕ → ℤ
int32 p i = to_z w32 (word p i)
