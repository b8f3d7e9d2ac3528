-- The set kind: what its windows are, and what its calls give.
use Rattle.std.proofs.Common.{◌≡◌, ℕ, zero, suc, ◌+◌, ◌-◌, ◌*◌, ◌/◌, ◌%◌, ◌^◌, ◌<◌, ◌≤◌, true, false, eqb, ◌⊎◌, List, [], ◌∷◌, length, ℤ, pos, negsuc, nat_abs, ◌≤ℤ◌, ◌<ℤ◌, Some, None, filter, sym, refl, ap, ◌∙◌, subst, inl, inr, pow-suc, arith, pow_mono}
use lib.Bits.{bit_and}
use lib.Count.{ones, ones_step, count_leading_zeros}
use lib.Signed.{le_z, lt_z}
use Rattle.std.proofs.lemmas.Int.{ints}
use Rattle.std.proofs.lemmas.Nat.{shr-shr, pow_below, leading_top, one_shl}
use Rattle.std.proofs.lemmas.Bool.{cases_order, eqb-true, eq-eqb}
use Rattle.std.proofs.lemmas.Bool.Decides.{nat_tests}
use Rattle.windows.specs.Sets.{eq_z, has, In, Rising, up_from, count, range, between, meet, remove, sole_of, same_set}
use Rattle.windows.specs.Kinds.{Of, Proper, all_but}
use Rattle.windows.specs.SetLaws.{tests, never, bool_same, in_here, rising_same, has_kept, has_range, rising_range, rising_kept, within_kept, has_meet, has_remove}
use Rattle.windows.proofs.KindLaws.{meet_in, rising_meet, remove_in, rising_remove}
use Rattle.windows.specs.SpanLaws.{range_in, same_set_is, same_set_self}
use Rattle.sets.specs.Masks.{bit_set, mask_numbers, set_stands, set_numbers, parts}
use Rattle.sets.specs.declared.set.SetRow.{SetRow}
use Rattle.sets.specs.BitLaws.{bit, bit_none, bits_same, bit_pow, bit_of_and, bit_not}

pub parts_proper : Proper parts
parts_proper = record { holds = λ s v i. i; mono = λ s t w. w; again = λ s. refl; rising = λ s r. r; none = refl; from = omega (arith, ints); to = omega (arith, ints) }

-- ---- the numbers of a mask
pub rising_mask : (m : ℕ) → Rising (mask_numbers m)
unfolding mask_numbers
rising_mask m = rising_kept (bit_set m) (range (pos 0) (pos 63)) (rising_range (pos 0) (pos 63))

pub mask_in : (m : ℕ) (v : ℤ) → In v (mask_numbers m) → (pos 0 ≤ℤ v) × (v ≤ℤ pos 63)
unfolding mask_numbers
mask_in m v i = range_in (pos 0) (pos 63) v (within_kept (bit_set m) (range (pos 0) (pos 63)) v i)

pub has_bit : (m j : ℕ) → j < 64 → has (mask_numbers m) (pos j) ≡ bit m j
unfolding mask_numbers
has_bit m j h =
    let k = has_kept (bit_set m) (range (pos 0) (pos 63)) (pos j) in
    let r = has_range (pos 0) (pos 63) (pos j) in
    let i : between (pos 0) (pos 63) (pos j) ≡ true = grind (arith, ints, tests) in
    grind arith

-- a set with the bits of a mask has its numbers
pub mask_from : (s : List ℤ) (m : ℕ) → Rising s → ((v : ℤ) → In v s → (pos 0 ≤ℤ v) × (v ≤ℤ pos 63)) → ((j : ℕ) → j < 64 → has s (pos j) ≡ bit m j) → s ≡ mask_numbers m
mask_from s m r b e = rising_same s (mask_numbers m) r (rising_mask m) same
  where
    place : (v : ℤ) → In v s ⊎ In v (mask_numbers m) → (pos 0 ≤ℤ v) × (v ≤ℤ pos 63)
    place v (inl i) = b v i
    place v (inr i) = mask_in m v i

    at : (v : ℤ) → (pos 0 ≤ℤ v) × (v ≤ℤ pos 63) → has s v ≡ has (mask_numbers m) v
    at (pos j) (l, h) = let k : j < 64 = omega (arith, ints) in e j k ∙ sym (has_bit m j k)
    at (negsuc j) (l, h) = absurd (omega (arith, ints))

    same : (v : ℤ) → has s v ≡ has (mask_numbers m) v
    same v = bool_same _ _ (λ i. sym (at v (place v (inl i))) ∙ i) (λ i. at v (place v (inr i)) ∙ i)

pub none_mask : mask_numbers 0 ≡ []
none_mask = sym (mask_from [] 0 tt (λ v i. never i) (λ j h. sym (bit_none j)))

pub mask_is : (a b : ℕ) → a < 2 ^ 64 → b < 2 ^ 64 → mask_numbers a ≡ mask_numbers b → a ≡ b
mask_is a b h k e = bits_same 64 a b h k (λ j l. sym (has_bit a j l) ∙ ap (λ s. has s (pos j)) e ∙ has_bit b j l)

pub some_mask : (m : ℕ) → 0 < m → m < 2 ^ 64 → 0 < length (mask_numbers m)
some_mask m h k = go (mask_numbers m) refl
  where
    go : (s : List ℤ) → mask_numbers m ≡ s → 0 < length s
    go [] e = let z = mask_is m 0 k (omega arith) (e ∙ sym none_mask) in absurd (omega arith)
    go (x ∷ s) e = omega arith

pub parts_of : (m : ℕ) → 0 < m → m < 2 ^ 64 → Of parts (mask_numbers m)
parts_of m h k = record { rising = rising_mask m; some = some_mask m h k; closed = refl; bounded = mask_in m }

-- ---- rows
pub row_is : (r : SetRow) → 0 < r.mask → r.mask < 2 ^ 64 → set_numbers r ≡ mask_numbers r.mask
unfolding set_numbers
row_is r h k = let e : set_stands r ≡ true = grind (arith, nat_tests) in rw e refl

-- a row of 64 bits: where no bit is set there are no numbers either way
pub row_fits : (r : SetRow) → r.mask < 2 ^ 64 → set_numbers r ≡ mask_numbers r.mask
unfolding set_numbers
row_fits r k = let z = none_mask in let m : r.mask ≡ 0 → mask_numbers r.mask ≡ mask_numbers 0 = ap mask_numbers in grind (arith, nat_tests)

-- a row with numbers passes its check
row_some : (r : SetRow) → (set_numbers r ≡ [] → ⊥) → (0 < r.mask) × (r.mask < 2 ^ 64)
unfolding set_numbers
row_some r n = grind (arith, nat_tests)

pub row_of : (r : SetRow) → (set_numbers r ≡ [] → ⊥) → Of parts (set_numbers r)
row_of r n = let s = row_some r n in subst (Of parts) (sym (row_is r s.0 s.1)) (parts_of r.mask s.0 s.1)

pub row_faithful : (a b : SetRow) → (set_numbers a ≡ [] → ⊥) → set_numbers a ≡ set_numbers b → a ≡ b
row_faithful a b n e =
    let s = row_some a n in
    let t = row_some b (λ z. n (e ∙ z)) in
    ap {B = SetRow} (λ (m : ℕ). record { mask = m }) (mask_is a.mask b.mask s.1 t.1 (sym (row_is a s.0 s.1) ∙ e ∙ row_is b t.0 t.1))

-- ---- meet
pub meet_mask : (a b : ℕ) → meet (mask_numbers a) (mask_numbers b) ≡ mask_numbers (bit_and a b)
meet_mask a b = mask_from _ (bit_and a b) (rising_meet (mask_numbers a) (mask_numbers b) (rising_mask a)) (λ v i. mask_in a v (meet_in (mask_numbers a) (mask_numbers b) v i).0) bits
  where
    bits : (j : ℕ) → j < 64 → has (meet (mask_numbers a) (mask_numbers b)) (pos j) ≡ bit (bit_and a b) j
    bits j h =
        let m = has_meet (mask_numbers a) (mask_numbers b) (pos j) in
        let x = has_bit a j h in
        let y = has_bit b j h in
        let z = bit_of_and a b j in
        grind arith

-- ---- all numbers but one
all_but_mask : (a k : ℕ) → k < 64 → all_but parts (mask_numbers a) (pos k) ≡ mask_numbers (bit_and a (2 ^ 64 - 1 - 2 ^ k))
unfolding all_but
all_but_mask a k h = mask_from _ (bit_and a (2 ^ 64 - 1 - 2 ^ k)) (rising_remove (pos k) (mask_numbers a) (rising_mask a)) (λ v i. mask_in a v (remove_in (pos k) (mask_numbers a) v i).0) bits
  where
    bits : (j : ℕ) → j < 64 → has (remove (pos k) (mask_numbers a)) (pos j) ≡ bit (bit_and a (2 ^ 64 - 1 - 2 ^ k)) j
    bits j l =
        let r = has_remove (pos k) (mask_numbers a) (pos j) in
        let x = has_bit a j l in
        let e : eq_z (pos j) (pos k) ≡ eqb k j = grind (arith, ints, tests, nat_tests) in
        let n = bit_not 64 (2 ^ k) j (pow_below k 64 h) l in
        let p = bit_pow k j in
        let z = bit_of_and a (2 ^ 64 - 1 - 2 ^ k) j in
        grind arith

pub all_but_outside : (a : ℕ) (z : ℤ) → (z <ℤ pos 0) ⊎ (pos 64 ≤ℤ z) → all_but parts (mask_numbers a) z ≡ mask_numbers a
unfolding all_but
all_but_outside a z o = mask_from _ a (rising_remove z (mask_numbers a) (rising_mask a)) (λ v i. mask_in a v (remove_in z (mask_numbers a) v i).0) bits
  where
    bits : (j : ℕ) → j < 64 → has (remove z (mask_numbers a)) (pos j) ≡ bit a j
    bits j h =
        let r = has_remove z (mask_numbers a) (pos j) in
        let x = has_bit a j h in
        let e : eq_z (pos j) z ≡ false = grind (arith, ints, tests) in
        grind arith

pub cleared_mask : (m : ℕ) (u v : ℤ) → u ≡ v → le_z (pos 0) u ≡ true → lt_z u (pos 64) ≡ true → mask_numbers (bit_and m (2 ^ 64 - 1 - (1 * 2 ^ nat_abs u) % 2 ^ 64)) ≡ all_but parts (mask_numbers m) v
cleared_mask m (pos k) v e l h =
    let i : k < 64 = omega (arith, ints) in
    ap (λ x. mask_numbers (bit_and m (2 ^ 64 - 1 - x))) (one_shl k 64 i) ∙ sym (all_but_mask m k i) ∙ ap (all_but parts (mask_numbers m)) e
cleared_mask m (negsuc k) v e l h = absurd (omega (arith, ints))

-- ---- the only number
one_mask : (k : ℕ) → k < 64 → mask_numbers (2 ^ k) ≡ pos k ∷ []
one_mask k h = sym (mask_from (pos k ∷ []) (2 ^ k) tt here (λ j l. one j ∙ sym (bit_pow k j)))
  where
    here : (v : ℤ) → In v (pos k ∷ []) → (pos 0 ≤ℤ v) × (v ≤ℤ pos 63)
    here v i = let e : pos k ≡ v = grind (arith, tests) in (omega (arith, ints), omega (arith, ints))

    one : (j : ℕ) → has (pos k ∷ []) (pos j) ≡ eqb k j
    one j = grind (arith, ints, tests, nat_tests)

powers : (i j : ℕ) → i ≤ j → 2 ^ i ≤ 2 ^ j
powers i j h = pow_mono h

-- more numbers than that of the highest bit
sole_more : (m k : ℕ) → m < 2 ^ 64 → 2 ^ k ≤ m → m < 2 ^ suc k → (m ≡ 2 ^ k → ⊥) → sole_of (mask_numbers m) ≡ None
sole_more m k h l g n = go (mask_numbers m) refl
  where
    same : (j : ℕ) → 2 ^ j ≡ m → (j ≡ k) ⊎ ((j < k) ⊎ (k < j)) → ⊥
    same j e (inl c) = n (sym e ∙ ap (λ i. 2 ^ i) c)
    same j e (inr (inl c)) = let p = pow_below j k c in omega arith
    same j e (inr (inr c)) = let p = powers (suc k) j c in omega arith

    other : (x : ℤ) → mask_numbers m ≡ x ∷ [] → ⊥
    other (negsuc j) e = let b = mask_in m (negsuc j) (ap (λ s. has s (negsuc j)) e ∙ in_here (negsuc j) []) in omega (arith, ints)
    other (pos j) e =
        let b = mask_in m (pos j) (ap (λ s. has s (pos j)) e ∙ in_here (pos j) []) in
        let c : j < 64 = omega (arith, ints) in
        same j (mask_is (2 ^ j) m (pow_below j 64 c) h (one_mask j c ∙ sym e)) (cases_order j k)

    go : (s : List ℤ) → mask_numbers m ≡ s → sole_of s ≡ None
    go [] e = refl
    go (x ∷ []) e = absurd (other x e)
    go (x ∷ (y ∷ s)) e = refl

pub sole_top_one : (m z : ℕ) → 0 < m → m < 2 ^ 64 → z ≡ 63 - count_leading_zeros 64 m → m ≡ 2 ^ z → sole_of (mask_numbers m) ≡ Some (pos z)
sole_top_one m z h k e q = let t = leading_top 64 m h k in ap (λ x. sole_of (mask_numbers x)) q ∙ ap sole_of (one_mask z (omega arith))

pub sole_top_more : (m z : ℕ) → 0 < m → m < 2 ^ 64 → z ≡ 63 - count_leading_zeros 64 m → (m ≡ 2 ^ z → ⊥) → sole_of (mask_numbers m) ≡ None
sole_top_more m z h k e n = let t = leading_top 64 m h k in let j : t.0 ≡ z = omega arith in sole_more m t.0 k t.2 t.3 (λ q. n (q ∙ ap (λ i. 2 ^ i) j))

-- ---- how many
length_mask : (m a n : ℕ) → m / 2 ^ a < 2 ^ n → length (filter (bit_set m) (up_from (pos a) n)) ≡ ones (m / 2 ^ a)
unfolding ones
length_mask m a zero h = let z : m / 2 ^ a ≡ 0 = omega arith in rw z refl
length_mask m a (suc n) h =
    let d = pow-suc 2 n in
    let e : m / 2 ^ a / 2 ≡ m / 2 ^ (a + 1) = shr-shr m a 1 in
    let ih = length_mask m (a + 1) n (omega arith) in
    let s = ones_step (m / 2 ^ a) in
    grind (arith, nat_tests)

pub size_mask : (m : ℕ) → m < 2 ^ 64 → length (mask_numbers m) ≡ ones m
unfolding mask_numbers range count
size_mask m h = let z : m / 2 ^ 0 ≡ m = whole in length_mask m 0 64 (omega arith) ∙ ap ones z
  where
    whole : m / 1 ≡ m
    whole = omega arith

-- ---- alike
pub alike_mask : (a b : ℕ) → a < 2 ^ 64 → b < 2 ^ 64 → eqb a b ≡ same_set (mask_numbers a) (mask_numbers b)
alike_mask a b h k = bool_same _ _ (λ e. subst (λ x. same_set (mask_numbers a) (mask_numbers x) ≡ true) (eqb-true a b e) (same_set_self (mask_numbers a))) (λ e. eq-eqb a b (mask_is a b h k (same_set_is (mask_numbers a) (mask_numbers b) e)))
