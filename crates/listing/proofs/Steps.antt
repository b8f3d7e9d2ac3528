-- A line more, and the last one.
use Rattle.std.proofs.Common.{◌≡◌, ℕ, zero, suc, ◌+◌, ◌⊎◌, List, [], ◌∷◌, length, Option, Some, None, Bor, sym, refl, ap, ◌∙◌, subst, inl, inr, arith}
use Rattle.std.specs.declared.iter.Enumerate.{Enumerate}
use Rattle.std.specs.declared.iter.Take.{Take}
use Rattle.std.specs.declared.iter.Zip.{Zip}
use Rattle.std.specs.declared.slice.Iter.{Iter}
use Rattle.std.specs.Iterator.Adapters.{enumerate_source, enumerate_count, enumerate_steps, take_source, take_count, take_steps, zip_first, zip_second}
use Rattle.std.specs.Slice.Iter.{iter_rest}
use Rattle.std.proofs.iter.Yields.{fronts}
use Rattle.std.proofs.lemmas.Iterator.{zips}
use Rattle.std.proofs.lemmas.Slice.Zip.{Zip-more, either_empty_from_Zip}
use Rattle.listing.specs.Lines.{Look, line, lines}

-- a loop over the pairs of two lists, so many at most, each with its number
abbrev pub Turns : Type 0 → Type 0
Turns R = Enumerate (Take (Zip (Iter R) (Iter R)))

abbrev pub turns : {R : Type 0} → Turns R → Option (ℕ × (Bor R × Bor R)) → Turns R → Type 0
turns = enumerate_steps (take_steps (zips fronts fronts))

-- the number of the next turn, and how many there are at most
abbrev pub turn : {R : Type 0} → Turns R → ℕ
turn s = enumerate_count s

abbrev pub most : {R : Type 0} → Turns R → ℕ
most s = take_count (enumerate_source s)

abbrev pub pairs : {R : Type 0} → Turns R → Zip (Iter R) (Iter R)
pairs s = take_source (enumerate_source s)

-- w, and the lines of the pairs that are left
abbrev pub left : {R : Type 0} → Look R → List ℕ → Turns R → List ℕ
left k w s = lines k w (most s) (turn s) (iter_rest (zip_first (pairs s))) (iter_rest (zip_second (pairs s)))

-- before the first turn all are left
pub left_first : {R : Type 0} (n : ℕ) (ps qs : List R) (s e : Turns R) (m : Take (Zip (Iter R) (Iter R))) (z : Zip (Iter R) (Iter R)) → s ≡ e → enumerate_source e ≡ m → enumerate_count e ≡ 0 → take_source m ≡ z → take_count m ≡ n → iter_rest (zip_first z) ≡ ps → iter_rest (zip_second z) ≡ qs → (turn s ≡ 0) × (most s ≡ n) × ((k : Look R) (w : List ℕ) → left k w s ≡ lines k w n 0 ps qs)
left_first n ps qs s e m z a b c d f g h =
    let i : turn s ≡ 0 = ap turn a ∙ c in
    let l : most s ≡ n = ap most a ∙ ap take_count b ∙ f in
    let o : pairs s ≡ z = ap pairs a ∙ ap take_source b ∙ d in
    (i, l, λ k w. rw (l, i, o, g, h) refl)

module _ {R : Type 0} (s t : Turns R) (r : Option (ℕ × (Bor R × Bor R))) where
  pub counted : (i : ℕ) (p q : Bor R) → r ≡ Some (i, (p, q)) → turns s r t → (i ≡ turn s) × (turn t ≡ turn s + 1) × (most t + 1 ≡ most s)
  counted i p q e h = let m = subst (λ o. turns s o t) e h in (m.1, m.2, m.0.1)

  pub left_more : (k : Look R) (w v : List ℕ) (i : ℕ) (p q : Bor R) → r ≡ Some (i, (p, q)) → turns s r t → v ≡ line k w i p.now q.now → left k v t ≡ left k w s
  left_more k w v i p q e h a =
      let m = subst (λ o. turns s o t) e h in
      let z = Zip-more (pairs s) (pairs t) (Some (p, q)) (p, q) refl m.0.0 in
      let c = counted i p q e h in
      let n : most s ≡ suc (most t) = omega arith in
      let j : turn t ≡ turn s + 1 = c.1 in
      rw (z.0, z.1, n, j, a, c.0) refl

  pub left_none : (k : Look R) (w : List ℕ) → r ≡ None → turns s r t → w ≡ left k w s
  left_none k w e h = sym (by (most s) refl)
    where
      none : (n : ℕ) (ps qs : List R) → (ps ≡ []) ⊎ (qs ≡ []) → lines k w n (turn s) ps qs ≡ w
      none zero ps qs z = refl
      none (suc n) [] qs z = refl
      none (suc n) (p ∷ ps) [] z = refl
      none (suc n) (p ∷ ps) (q ∷ qs) (inl z) = absurd (omega (arith, ap length z))
      none (suc n) (p ∷ ps) (q ∷ qs) (inr z) = absurd (omega (arith, ap length z))

      by : (n : ℕ) → most s ≡ n → left k w s ≡ w
      by zero a = rw a refl
      by (suc n) a = none (most s) _ _ (either_empty_from_Zip (pairs s) (pairs t) None refl ((subst (λ o. turns s o t) e h).0 (omega arith)))
