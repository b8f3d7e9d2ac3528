-- What the code of the sum rules computes, as numbers.
use Rattle.std.proofs.Common.{◌≡◌, ℕ, zero, suc, ◌*◌, ◌<◌, ◌≤◌, Bool, true, false, cond, ℤ, pos, negsuc, ◌-ℤ◌, ◌*ℤ◌, neg_ℤ, nat_abs, ◌≤ℤ◌, ◌<ℤ◌, sym, refl, ap, ◌∙◌, ap₂, mul_comm, div-lt_iff_lt-mul, mul-le-mul, le-div_iff_mul-le, div-le_self, arith, w32, w64, to_z, of_z}
use lib.IntN.{neg_ℤ-neg_ℤ, +ℤ_idl}
use lib.Signed.{le_z}
use Rattle.std.specs.Int.{int_min, int_max, int_div_euclid}
use Rattle.std.proofs.lemmas.Int.{ints, clamps}
use Rattle.std.proofs.lemmas.Bool.Decides.{nat_tests}
use Rattle.windows.specs.Sets.{range, between, least_by, greatest_by}
use Rattle.windows.specs.Rows.{Stands}
use Rattle.sums.specs.Sizes.{Weighs, Small}
use Rattle.sums.specs.Sums.{weighed}
use Rattle.windows.specs.SetLaws.{tests, least_range, greatest_range}
use Rattle.sums.proofs.Signed.{mul_up, mul_down}

-- ---- products
size_bound : (a b : ℕ) → a ≤ 10000 → b ≤ 1000000 → a * b ≤ 10000000000
size_bound a b h k = mul-le-mul h k

pub times_small : (w v : ℤ) → Weighs w → Small 1000000 v → Small 10000000000 (w *ℤ v)
times_small (pos a) (pos b) w s = let m = size_bound a b (omega (arith, ints)) (omega (arith, ints)) in (omega (arith, ints), omega (arith, ints))
times_small (pos a) (negsuc b) w s = let m = size_bound a (suc b) (omega (arith, ints)) (omega (arith, ints)) in (omega (arith, ints), omega (arith, ints))
times_small (negsuc a) (pos b) w s = let m = size_bound (suc a) b (omega (arith, ints)) (omega (arith, ints)) in (omega (arith, ints), omega (arith, ints))
times_small (negsuc a) (negsuc b) w s = let m = size_bound (suc a) (suc b) (omega (arith, ints)) (omega (arith, ints)) in (omega (arith, ints), omega (arith, ints))

-- the least and the greatest product stand at the ends
pub least_ends : (w lo hi : ℤ) → lo ≤ℤ hi → least_by (λ v. w *ℤ v) (range lo hi) ≡ int_min (w *ℤ lo) (w *ℤ hi)
least_ends (pos n) lo hi h = let m = mul_up n lo hi h in least_range (λ v. pos n *ℤ v) lo hi (pos n *ℤ lo) h (λ v l g. mul_up n lo v l) lo (omega (arith, ints)) h refl ∙ omega (arith, ints, clamps)
least_ends (negsuc n) lo hi h = let m = mul_down n lo hi h in least_range (λ v. negsuc n *ℤ v) lo hi (negsuc n *ℤ hi) h (λ v l g. mul_down n v hi g) hi h (omega (arith, ints)) refl ∙ omega (arith, ints, clamps)

pub greatest_ends : (w lo hi : ℤ) → lo ≤ℤ hi → greatest_by (λ v. w *ℤ v) (range lo hi) ≡ int_max (w *ℤ lo) (w *ℤ hi)
greatest_ends (pos n) lo hi h = let m = mul_up n lo hi h in greatest_range (λ v. pos n *ℤ v) lo hi (pos n *ℤ hi) h (λ v l g. mul_up n v hi g) hi h (omega (arith, ints)) refl ∙ omega (arith, ints, clamps)
greatest_ends (negsuc n) lo hi h = let m = mul_down n lo hi h in greatest_range (λ v. negsuc n *ℤ v) lo hi (negsuc n *ℤ lo) h (λ v l g. mul_down n lo v l) lo (omega (arith, ints)) h refl ∙ omega (arith, ints, clamps)

pub ends_small : (lo hi : ℤ) → Stands lo hi → Small 1000000 lo × Small 1000000 hi
ends_small lo hi s = ((omega (arith, ints), omega (arith, ints)), (omega (arith, ints), omega (arith, ints)))

-- the product of a weight and an end of a span, as the code makes it
pub wide : (a b w v : ℤ) → a ≡ to_z w32 (of_z w32 w) → b ≡ v → Weighs w → Small 1000000 v → (to_z w64 (of_z w64 (to_z w64 (of_z w64 a) *ℤ to_z w64 (of_z w64 b))) ≡ w *ℤ v) × Small 10000000000 (w *ℤ v)
wide a b w v p q h k =
    let s = times_small w v h k in
    let x : to_z w64 (of_z w64 a) ≡ w = omega (arith, ints, clamps) in
    let y : to_z w64 (of_z w64 b) ≡ v = omega (arith, ints, clamps) in
    (rw (x, y) (omega (arith, ints, clamps)), s)

-- ---- quotients, rounded down
pub times_neg : (m : ℕ) (v : ℤ) → pos m *ℤ neg_ℤ v ≡ neg_ℤ (pos m *ℤ v)
times_neg m (pos zero) = omega (arith, ints)
times_neg m (pos (suc k)) = refl
times_neg m (negsuc k) = sym (neg_ℤ-neg_ℤ (pos (m * suc k)))

pub neg_times : (n : ℕ) (v : ℤ) → negsuc n *ℤ v ≡ neg_ℤ (pos (suc n) *ℤ v)
neg_times n (pos k) = refl
neg_times n (negsuc k) = sym (neg_ℤ-neg_ℤ (pos (suc n * suc k)))

-- v is at most the quotient exactly if the divisor times v is at most the number
pub floor_is : (m : ℕ) → 0 < m → (x v : ℤ) → le_z v (int_div_euclid x (pos m)) ≡ le_z (pos m *ℤ v) x
floor_is m h (pos a) (pos c) =
    let d = (le-div_iff_mul-le {k = m} {x = c} {y = a} h).0 in
    let e = (le-div_iff_mul-le {k = m} {x = c} {y = a} h).1 in
    let f = mul_comm c m in
    grind (arith, nat_tests)
floor_is m h (pos a) (negsuc c) = grind (arith, ints, tests)
floor_is m h (negsuc a) (pos c) = refl
floor_is m h (negsuc a) (negsuc c) =
    let d = (div-lt_iff_lt-mul {k = m} {x = a} {y = suc c} h).0 in
    let e = (div-lt_iff_lt-mul {k = m} {x = a} {y = suc c} h).1 in
    let f = mul_comm (suc c) m in
    grind (arith, ints, tests)

pub floor_small : (m : ℕ) → 0 < m → (b : ℕ) (x : ℤ) → Small b x → Small b (int_div_euclid x (pos m))
floor_small m h b (pos a) s = let d = div-le_self a m in (omega (arith, ints), omega (arith, ints))
floor_small m h b (negsuc a) s = let d = div-le_self a m in (omega (arith, ints), omega (arith, ints))

-- the size of a weight and the quotients by it, at what the code computes
pub record Computed (w low high s a b : ℤ) (exact : Bool) : Type 0 where
  pub size : s ≡ pos (nat_abs w)
  pub above : a ≡ int_div_euclid high s
  pub below : b ≡ cond exact (int_div_euclid (neg_ℤ low) s) (pos 1000000)
  pub small : Small 1000000000000 a

pub computed : (f w low high s a b : ℤ) (exact : Bool) → f ≡ to_z w32 (of_z w32 w) → s ≡ pos (nat_abs (to_z w64 (of_z w64 f))) → a ≡ int_div_euclid (to_z w64 (of_z w64 high)) (to_z w64 (of_z w64 s)) → b ≡ cond exact (int_div_euclid (neg_ℤ (to_z w64 (of_z w64 low))) (to_z w64 (of_z w64 s))) (pos 1000000) → Weighs w → Small 1000000000000 low → Small 1000000000000 high → Computed w low high s a b exact
computed f w low high s a b exact ef es ea eb h l g =
    let x : to_z w64 (of_z w64 f) ≡ w = omega (arith, ints, clamps) in
    let q : s ≡ pos (nat_abs w) = es ∙ ap (λ z. pos (nat_abs z)) x in
    let k = h.2 in
    let n : 0 < nat_abs w = omega (arith, ints) in
    let t : to_z w64 (of_z w64 s) ≡ s = rw q (omega (arith, ints, clamps)) in
    let y : to_z w64 (of_z w64 low) ≡ low = omega (arith, ints, clamps) in
    let z : to_z w64 (of_z w64 high) ≡ high = omega (arith, ints, clamps) in
    let d : a ≡ int_div_euclid high (pos (nat_abs w)) = cc in
    record { size = q; above = cc; below = cc; small = rw d (floor_small (nat_abs w) n 1000000000000 high g) }

pub quotients_up : (m : ℕ) → 0 < m → (exact : Bool) (low high v : ℤ) → negsuc 999999 ≤ℤ v → weighed (pos m) exact low high v ≡ between (neg_ℤ (cond exact (int_div_euclid (neg_ℤ low) (pos m)) (pos 1000000))) (int_div_euclid high (pos m)) v
quotients_up m h true low high v l =
    let a = floor_is m h high v in
    let b = floor_is m h (neg_ℤ low) (neg_ℤ v) in
    let t = times_neg m v in
    grind (arith, ints, tests)
quotients_up m h false low high v l = let a = floor_is m h high v in grind (arith, ints, tests)

pub quotients_down : (n : ℕ) (exact : Bool) (low high v : ℤ) → v ≤ℤ pos 1000000 → weighed (negsuc n) exact low high v ≡ between (neg_ℤ (int_div_euclid high (pos (suc n)))) (cond exact (int_div_euclid (neg_ℤ low) (pos (suc n))) (pos 1000000)) v
quotients_down n true low high v l =
    let a = floor_is (suc n) (omega arith) high (neg_ℤ v) in
    let b = floor_is (suc n) (omega arith) (neg_ℤ low) v in
    let s = times_neg (suc n) v in
    let t = neg_times n v in
    grind (arith, ints, tests)
quotients_down n false low high v l =
    let a = floor_is (suc n) (omega arith) high (neg_ℤ v) in
    let s = times_neg (suc n) v in
    let t = neg_times n v in
    grind (arith, ints, tests)

-- the same at what the code computes
pub quotients_pos : (w : ℤ) (exact : Bool) (low high size above below : ℤ) → pos 0 <ℤ w → size ≡ pos (nat_abs w) → above ≡ int_div_euclid high size → below ≡ cond exact (int_div_euclid (neg_ℤ low) size) (pos 1000000) → (v : ℤ) → negsuc 999999 ≤ℤ v → weighed w exact low high v ≡ between (pos 0 -ℤ below) above v
quotients_pos (pos m) exact low high size above below h s a b v l =
    let q = quotients_up m (omega (arith, ints)) exact low high v l in
    let z = +ℤ_idl (neg_ℤ below) in
    q ∙ ap₂ (λ x y. between x y v) (cc) (cc)
quotients_pos (negsuc n) exact low high size above below h s a b v l = absurd (omega (arith, ints))

pub quotients_neg : (w : ℤ) (exact : Bool) (low high size above below : ℤ) → w <ℤ pos 0 → size ≡ pos (nat_abs w) → above ≡ int_div_euclid high size → below ≡ cond exact (int_div_euclid (neg_ℤ low) size) (pos 1000000) → (v : ℤ) → v ≤ℤ pos 1000000 → weighed w exact low high v ≡ between (pos 0 -ℤ above) below v
quotients_neg (pos m) exact low high size above below h s a b v l = absurd (omega (arith, ints))
quotients_neg (negsuc n) exact low high size above below h s a b v l =
    let q = quotients_down n exact low high v l in
    let z = +ℤ_idl (neg_ℤ above) in
    q ∙ ap₂ (λ x y. between x y v) (cc) (cc)
