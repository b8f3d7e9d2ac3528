-- Sets of window numbers as the bits of a mask.
use Rattle.std.proofs.Common.{◌≡◌, ℕ, zero, suc, ◌*◌, ◌%◌, ◌^◌, ◌<◌, ◌≤◌, Bool, true, false, not, ◌||◌, eqb, ◌⊎◌, ap, ◌∙◌, inl, inr, sym, refl, arith, w64}
use lib.Bits.{bit_or}
use Rattle.std.specs.Int.{bit_at}
use Rattle.std.proofs.lemmas.Nat.Bits.{bit_at-zero, bit_at-lt, bit_at_or, bit_at-pow_same, bit_at-pow_other, bit_at_set_same, bit_at_set_other, same_from_bits_below}
use Rattle.std.proofs.lemmas.Bool.{cases_eq, both_ways, or_parts, or_from, lt-ltb}
use Rattle.std.proofs.lemmas.Bool.Decides.{nat_tests}
use Rattle.rulebook.specs.Answers.{bit, member, any}
use Rattle.rulebook.specs.declared.set.WindowSet.{WindowSet}

-- one bit more
pub bit_of_or : (m j k : ℕ) → bit (bit_or m (2 ^ j)) k ≡ (bit m k || eqb j k)
bit_of_or m j k = go (cases_eq k j)
  where
    go : (k ≡ j) ⊎ (k ≡ j → ⊥) → bit (bit_or m (2 ^ j)) k ≡ (bit m k || eqb j k)
    go (inl e) = rw e (let o = bit_at_or m (2 ^ j) j in let s = bit_at-pow_same j in let l = bit_at-lt m j in grind (arith, nat_tests))
    go (inr n) = let o = bit_at_or m (2 ^ j) k in let s = bit_at-pow_other j k n in let l = bit_at-lt m k in grind (arith, nat_tests)

pub bit_set : (m j k : ℕ) → j < 64 → bit (bit_or m ((1 * 2 ^ j) % 2 ^ 64)) k ≡ (bit m k || eqb j k)
bit_set m j k h = go (cases_eq k j)
  where
    go : (k ≡ j) ⊎ (k ≡ j → ⊥) → bit (bit_or m ((1 * 2 ^ j) % 2 ^ 64)) k ≡ (bit m k || eqb j k)
    go (inl e) = rw e (let s = bit_at_set_same w64 m j h in grind (arith, nat_tests))
    go (inr n) = let s = bit_at_set_other w64 m j h k n in grind (arith, nat_tests)

-- no bit is set exactly if the mask is 0
none_below : (s : WindowSet) (n j : ℕ) → n ≤ 64 → any (member s) n ≡ false → j < n → bit_at s.mask j ≡ 0
none_below s zero j h e l = absurd (omega arith)
none_below s (suc n) j h e l =
    let o = or_parts (any (member s) n) (member s n) e in
    go o.1 (λ m. none_below s n j (omega arith) o.0 m) (cases_eq j n)
  where
    go : member s n ≡ false → (j < n → bit_at s.mask j ≡ 0) → (j ≡ n) ⊎ (j ≡ n → ⊥) → bit_at s.mask j ≡ 0
    go q f (inl i) = let b = bit_at-lt s.mask n in let t = lt-ltb n 64 (omega arith) in ap (bit_at s.mask) i ∙ grind (arith, nat_tests)
    go q f (inr d) = f (omega arith)

none_of_zero : (s : WindowSet) (n : ℕ) → s.mask ≡ 0 → any (member s) n ≡ false
none_of_zero s zero e = refl
none_of_zero s (suc n) e = or_from (any (member s) n) (member s n) (none_of_zero s n e) last
  where
    last : member s n ≡ false
    last = let z : bit s.mask n ≡ false = ap (λ m. bit m n) e ∙ ap (λ b. eqb b 1) (bit_at-zero n) in grind arith

pub is_empty : (s : WindowSet) → s.mask < 2 ^ 64 → eqb s.mask 0 ≡ not (any (member s) 64)
is_empty s l = go (any (member s) 64) refl
  where
    go : (t : Bool) → any (member s) 64 ≡ t → eqb s.mask 0 ≡ not t
    go false e = let z = same_from_bits_below 64 s.mask 0 l (omega arith) (λ i h. none_below s 64 i (omega arith) e h ∙ sym (bit_at-zero i)) in grind (arith, nat_tests)
    go true e = let f : s.mask ≡ 0 → ⊥ = λ q. both_ways (any (member s) 64) (none_of_zero s 64 q) e in grind (arith, nat_tests)
