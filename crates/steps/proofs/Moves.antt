-- Masks moved by a distance.
use Rattle.std.proofs.Common.{◌≡◌, ℕ, suc, ◌+◌, ◌-◌, ◌*◌, ◌/◌, ◌%◌, ◌^◌, ◌<◌, ◌≤◌, true, false, eqb, ◌⊎◌, [], ℤ, pos, negsuc, ◌+ℤ◌, ◌-ℤ◌, neg_ℤ, nat_abs, ◌≤ℤ◌, ◌<ℤ◌, Option, sym, ap, ◌∙◌, ap₂, inl, inr, arith, w32, to_z, of_z, MatchOption}
use lib.Bits.{bit_and}
use Rattle.std.proofs.lemmas.Nat.{and_le_l}
use Rattle.std.proofs.lemmas.Nat.Bits.{bit_at_above}
use Rattle.std.proofs.lemmas.Bool.{false_from_ne_true}
use Rattle.std.proofs.lemmas.Int.{ints}
use Rattle.windows.specs.Sets.{has, meet}
use Rattle.windows.specs.SetLaws.{between_is, kept_same}
use Rattle.sets.specs.Masks.{mask_numbers, set_numbers}
use Rattle.sets.specs.declared.set.Set.{Set}
use Rattle.sets.specs.declared.set.SetRow.{SetRow}
use Rattle.sets.specs.BitLaws.{bit, bit_mod, bit_down, bit_up, bit_under}
use Rattle.sets.specs.MaskLaws.{mask_in, has_bit, meet_mask, row_fits}
use Rattle.rules.specs.Writing.{numbers_of}
use Rattle.rules.proofs.WritingLaws.{numbers_is}
use Rattle.rules.proofs.PointwiseLaws.{le_or_lt}
use Rattle.steps.specs.Steps.{in_reach, partnered}

-- a number outside 0..63 is in no mask
outside : (m : ℕ) (v : ℤ) → (v <ℤ pos 0) ⊎ (pos 64 ≤ℤ v) → has (mask_numbers m) v ≡ false
outside m v o = false_from_ne_true (has (mask_numbers m) v) (λ e. let b = mask_in m v e in elim o [ inl l ↦ omega (arith, ints) | inr l ↦ omega (arith, ints) ])

-- no bit past the sixty-fourth is set
past : (m j : ℕ) → m < 2 ^ 64 → 64 ≤ j → bit m j ≡ false
past m j h l = ap (λ x. eqb x 1) (bit_at_above m 64 j h l)

down : (m d j : ℕ) → m < 2 ^ 64 → j < 64 → has (mask_numbers (m / 2 ^ d)) (pos j) ≡ has (mask_numbers m) (pos j +ℤ pos d)
down m d j h l = has_bit (m / 2 ^ d) j l ∙ bit_down m d j ∙ go (le_or_lt 64 (d + j))
  where
    e : pos j +ℤ pos d ≡ pos (d + j)
    e = omega (arith, ints)

    go : (64 ≤ d + j) ⊎ (d + j < 64) → bit m (d + j) ≡ has (mask_numbers m) (pos j +ℤ pos d)
    go (inl k) = past m (d + j) h k ∙ sym (outside m (pos j +ℤ pos d) (inr (omega (arith, ints))))
    go (inr k) = sym (ap (has (mask_numbers m)) e ∙ has_bit m (d + j) k)

up : (m d j : ℕ) → j < 64 → has (mask_numbers ((m * 2 ^ d) % 2 ^ 64)) (pos j) ≡ has (mask_numbers m) (pos j +ℤ neg_ℤ (pos d))
up m d j l = has_bit ((m * 2 ^ d) % 2 ^ 64) j l ∙ bit_mod 64 (m * 2 ^ d) j l ∙ go (le_or_lt d j)
  where
    go : (d ≤ j) ⊎ (j < d) → bit (m * 2 ^ d) j ≡ has (mask_numbers m) (pos j +ℤ neg_ℤ (pos d))
    go (inl k) = let e : pos j +ℤ neg_ℤ (pos d) ≡ pos (j - d) = omega (arith, ints) in bit_up m d j k ∙ sym (ap (has (mask_numbers m)) e ∙ has_bit m (j - d) (omega arith))
    go (inr k) = bit_under m d j k ∙ sym (outside m (pos j +ℤ neg_ℤ (pos d)) (inl (omega (arith, ints))))

-- ---- at the machine's numbers
pub moved_down : (m : ℕ) (u k : ℤ) → u ≡ k → m < 2 ^ 64 → pos 0 ≤ℤ k → (v : ℤ) → pos 0 ≤ℤ v → v ≤ℤ pos 63 → has (mask_numbers (m / 2 ^ nat_abs u)) v ≡ has (mask_numbers m) (v +ℤ k)
moved_down m u k e h s v l g = ap (λ x. has (mask_numbers (m / 2 ^ nat_abs x)) v) e ∙ go k v s l g
  where
    go : (k v : ℤ) → pos 0 ≤ℤ k → pos 0 ≤ℤ v → v ≤ℤ pos 63 → has (mask_numbers (m / 2 ^ nat_abs k)) v ≡ has (mask_numbers m) (v +ℤ k)
    go (pos d) (pos j) s l g = down m d j h (omega (arith, ints))
    go (pos d) (negsuc j) s l g = absurd (omega (arith, ints))
    go (negsuc d) v s l g = absurd (omega (arith, ints))

pub moved_up : (m : ℕ) (u k : ℤ) → u ≡ neg_ℤ k → k <ℤ pos 0 → (v : ℤ) → pos 0 ≤ℤ v → v ≤ℤ pos 63 → has (mask_numbers ((m * 2 ^ nat_abs u) % 2 ^ 64)) v ≡ has (mask_numbers m) (v +ℤ k)
moved_up m u k e s v l g = ap (λ x. has (mask_numbers ((m * 2 ^ nat_abs x) % 2 ^ 64)) v) e ∙ go k v s l g
  where
    go : (k v : ℤ) → k <ℤ pos 0 → pos 0 ≤ℤ v → v ≤ℤ pos 63 → has (mask_numbers ((m * 2 ^ nat_abs (neg_ℤ k)) % 2 ^ 64)) v ≡ has (mask_numbers m) (v +ℤ k)
    go (pos d) v s l g = absurd (omega (arith, ints))
    go (negsuc d) (negsuc j) s l g = absurd (omega (arith, ints))
    go (negsuc d) (pos j) s l g = let e : pos j +ℤ neg_ℤ (pos (suc d)) ≡ pos j +ℤ negsuc d = omega (arith, ints) in up m (suc d) j (omega (arith, ints)) ∙ ap (has (mask_numbers m)) e

-- the numbers of a that are in a moved mask r are those with a partner in b
pub partners : (a b r : ℕ) (k : ℤ) → ((v : ℤ) → pos 0 ≤ℤ v → v ≤ℤ pos 63 → has (mask_numbers r) v ≡ has (mask_numbers b) (v +ℤ k)) → mask_numbers (bit_and a r) ≡ partnered k (mask_numbers a) (mask_numbers b)
unfolding meet
partners a b r k f = sym (meet_mask a r) ∙ kept_same (has (mask_numbers r)) (λ v. has (mask_numbers b) (v +ℤ k)) (mask_numbers a) (λ v i. let h = mask_in a v i in f v h.0 h.1)

-- the window that the code makes of the rows r and t of two sets
pub partnered_is : (r t : SetRow) (a b m : ℕ) (k : ℤ) (o : Option Set) → r.mask < 2 ^ 64 → t.mask < 2 ^ 64 → set_numbers r ≡ mask_numbers a → set_numbers t ≡ mask_numbers b → ((v : ℤ) → pos 0 ≤ℤ v → v ≤ℤ pos 63 → has (mask_numbers m) v ≡ has (mask_numbers t.mask) (v +ℤ k)) → MatchOption o (set_numbers (record { mask = bit_and r.mask m }) ≡ []) (λ w. mask_numbers w.mask ≡ set_numbers (record { mask = bit_and r.mask m })) → numbers_of (λ (w : Set). mask_numbers w.mask) o ≡ partnered k (mask_numbers a) (mask_numbers b)
partnered_is r t a b m k o fr ft er et f c =
    let l = and_le_l r.mask m in
    numbers_is (λ (w : Set). mask_numbers w.mask) o _ c
    ∙ row_fits (record { mask = bit_and r.mask m }) (omega arith)
    ∙ partners r.mask t.mask m k f
    ∙ ap₂ (partnered k) (sym (row_fits r fr) ∙ er) (sym (row_fits t ft) ∙ et)

-- the distance with its sign turned
pub turned : (k : ℤ) → in_reach k ≡ true → to_z w32 (of_z w32 (pos 0 -ℤ to_z w32 (of_z w32 k))) ≡ neg_ℤ k
turned k r = let b = between_is (negsuc 62) (pos 63) k r in omega (arith, ints)
