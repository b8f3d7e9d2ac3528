-- The set kind, and the numbers of a mask.
use Rattle.std.specs.Prelude.{◌≡◌, ℕ, ◌/◌, ◌%◌, ◌^◌, Bool, cond, ◌&&◌, List, [], ◌∷◌, ℤ, pos, filter, ◌==◌, nat_lt, refl}
use Rattle.windows.specs.Sets.{natural, count, range}
use Rattle.windows.specs.Kinds.{Kind}
use Rattle.sets.specs.declared.set.SetRow.{SetRow}

-- is bit v of the mask set
abbrev pub bit_set : ℕ → ℤ → Bool
bit_set m v = (m / 2 ^ natural v) % 2 == 1

-- the numbers of a mask: those from 0 to 63 whose bits are set
unfoldable pub mask_numbers : ℕ → List ℤ
mask_numbers m = filter (bit_set m) (range (pos 0) (pos 63))

-- as in this mask, with its two lowest bits and its highest one
mask_example : mask_numbers 0x8000_0000_0000_0003 ≡ pos 0 ∷ (pos 1 ∷ (pos 63 ∷ []))
unfolding mask_numbers range count
mask_example = refl

-- the check of a row: is the mask not 0; none has more than 64 bits
abbrev pub set_stands : SetRow → Bool
set_stands r = nat_lt 0 r.mask && nat_lt r.mask (2 ^ 64)

-- what a row stands for: the numbers of its mask, none where it fails its check
unfoldable pub set_numbers : SetRow → List ℤ
set_numbers r = cond (set_stands r) (mask_numbers r.mask) []

-- the set kind: some of the numbers from 0 to 63, with or without gaps
abbrev pub parts : Kind
parts = record { around = λ s. s; lowest = pos 0; highest = pos 63 }
