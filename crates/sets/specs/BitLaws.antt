-- The bits of a number, as tests: those of the library are numbers, 0 or 1.
use Rattle.std.proofs.Common.{◌≡◌, ℕ, zero, suc, ◌+◌, ◌-◌, ◌*◌, ◌/◌, ◌%◌, ◌^◌, ◌<◌, ◌≤◌, Bool, false, not, ◌&&◌, eqb, min, ◌⊎◌, sym, ap, ◌∙◌, inl, inr, arith, add-zero, mul-add, pow-suc, one-add}
use lib.Bits.{bit_and}
use Rattle.std.specs.Int.{bit_at}
use Rattle.std.proofs.lemmas.Nat.{shr-shr, pow_pos, div-add-mod'}
use Rattle.std.proofs.lemmas.Nat.Bits.{bit_at-zero, bit_at_and, bit_at-pow_same, bit_at-pow_other, bit_at-lt, same_from_bits_below, bit_at_cat_low, bit_at_cat_high}
use Rattle.std.proofs.lemmas.Bool.{cases_eq}
use Rattle.std.proofs.lemmas.Bool.Decides.{nat_tests}

-- is bit j of the number set
abbrev pub bit : ℕ → ℕ → Bool
bit m j = eqb ((m / 2 ^ j) % 2) 1

doubled : (k : ℕ) → 2 ^ suc k ≡ 2 ^ k + 2 ^ k
doubled k = let e = pow-suc 2 k in omega arith

-- the lowest bit, and the others, which are those of the half
pub bit_low : (m : ℕ) → bit m 0 ≡ eqb (m % 2) 1
bit_low m = let e : m / 1 ≡ m = omega arith in ap (λ x. eqb (x % 2) 1) e

pub bit_next : (m j : ℕ) → bit m (suc j) ≡ bit (m / 2) j
bit_next m j = ap (λ x. eqb (x % 2) 1) (sym (shr-shr m 1 j ∙ ap (λ k. m / 2 ^ k) (one-add j)))

pub bit_none : (j : ℕ) → bit 0 j ≡ false
bit_none j = ap (λ x. eqb x 1) (bit_at-zero j)

-- numbers with the same bits are the same
pub bits_same : (n a b : ℕ) → a < 2 ^ n → b < 2 ^ n → ((j : ℕ) → j < n → bit a j ≡ bit b j) → a ≡ b
bits_same n a b h k e = same_from_bits_below n a b h k (λ j l. one (bit_at a j) (bit_at b j) (bit_at-lt a j) (bit_at-lt b j) (e j l))
  where
    one : (x y : ℕ) → x < 2 → y < 2 → eqb x 1 ≡ eqb y 1 → x ≡ y
    one x y h k e = grind (arith, nat_tests)

-- the bits of a power of two
pub bit_pow : (j k : ℕ) → bit (2 ^ j) k ≡ eqb j k
bit_pow j k = go (cases_eq k j)
  where
    go : (k ≡ j) ⊎ (k ≡ j → ⊥) → bit (2 ^ j) k ≡ eqb j k
    go (inl e) = rw e (let s = bit_at-pow_same j in grind (arith, nat_tests))
    go (inr n) = let s = bit_at-pow_other j k n in grind (arith, nat_tests)

-- the bits that two numbers share
pub bit_of_and : (a b j : ℕ) → bit (bit_and a b) j ≡ (bit a j && bit b j)
bit_of_and a b j = both (bit_at (bit_and a b) j) (bit_at a j) (bit_at b j) (bit_at_and a b j) (bit_at-lt a j) (bit_at-lt b j)
  where
    both : (r x y : ℕ) → r ≡ min x y → x < 2 → y < 2 → eqb r 1 ≡ (eqb x 1 && eqb y 1)
    both r x y e h k = grind (arith, nat_tests)

-- the bits of the complement
pub bit_not : (n m j : ℕ) → m < 2 ^ n → j < n → bit (2 ^ n - 1 - m) j ≡ not (bit m j)
bit_not zero m j h l = absurd (omega arith)
bit_not (suc n) m zero h l =
    let d = doubled n in
    let p = pow_pos n in
    let q : (2 ^ suc n - 1 - m) % 2 ≡ 1 - m % 2 = omega arith in
    let s : eqb ((2 ^ suc n - 1 - m) % 2) 1 ≡ not (eqb (m % 2) 1) = grind (arith, nat_tests) in
    bit_low (2 ^ suc n - 1 - m) ∙ s ∙ ap not (sym (bit_low m))
bit_not (suc n) m (suc j) h l =
    let d = doubled n in
    let q : (2 ^ suc n - 1 - m) / 2 ≡ 2 ^ n - 1 - m / 2 = omega arith in
    bit_next (2 ^ suc n - 1 - m) j ∙ ap (λ x. bit x j) q ∙ bit_not n (m / 2) j (omega arith) (omega arith) ∙ ap not (sym (bit_next m j))

-- the lowest n bits are those of the rest
pub bit_mod : (n m j : ℕ) → j < n → bit (m % 2 ^ n) j ≡ bit m j
bit_mod n m j l = ap (λ x. eqb x 1) (sym (bit_at_cat_low (m / 2 ^ n) n (m % 2 ^ n) j l) ∙ ap (λ x. bit_at x j) (div-add-mod' m (2 ^ n)))

-- the bits of a number shifted down and up
pub bit_down : (m d j : ℕ) → bit (m / 2 ^ d) j ≡ bit m (d + j)
bit_down m d j = ap (λ x. eqb (x % 2) 1) (shr-shr m d j)

pub bit_up : (m d j : ℕ) → d ≤ j → bit (m * 2 ^ d) j ≡ bit m (j - d)
bit_up m d j h = ap (λ x. bit x j) (sym (add-zero (m * 2 ^ d))) ∙ ap (λ x. eqb x 1) (bit_at_cat_high m d 0 j (pow_pos d) h)

twice : (m d : ℕ) → m * 2 ^ suc d ≡ 2 * (m * 2 ^ d)
twice m d = ap (λ x. m * x) (doubled d) ∙ mul-add m (2 ^ d) (2 ^ d) ∙ omega arith

pub bit_under : (m d j : ℕ) → j < d → bit (m * 2 ^ d) j ≡ false
bit_under m d j h = ap (λ x. bit x j) (sym (add-zero (m * 2 ^ d))) ∙ ap (λ x. eqb x 1) (bit_at_cat_low m d 0 j h ∙ bit_at-zero j)
