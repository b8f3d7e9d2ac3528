-- Taking an item out of the first items of a list.
use Rattle.std.proofs.Common.{◌≡◌, ℕ, ◌-◌, ◌<◌, ◌≤◌, List, ◌++◌, length, take, drop, Some, None, sym, ap, ap₂, ◌∙◌, take_at, arith, add-one, rules, length-append}
use Rattle.std.specs.Prelude.{remove, slice_index_or}
use Rattle.std.proofs.lemmas.List.{length-take, length-take-le, append_assoc, take-take, get_or-take, length-drop}
use Rattle.std.proofs.Common.{drop-drop}
use Rattle.std.proofs.lemmas.Option.{slice_get-get_or, slice_get_past}
use Rattle.std.proofs.lemmas.Slice.{between_is}
use Rattle.std.proofs.lemmas.List.{places, same_lists}
use borrow.Rule.Slice.PartMut.{put_mid, post_of}
use Rattle.bounded.specs.Lists.{Removed, removed}

-- the item at place k goes out by a turn of the part that begins with it
pub closed : {X : Type 0} (xs : List X) (k len : ℕ) (part ys : List X) → k < len → len ≤ length xs → part ≡ take (len - k) (drop k xs) → ys ≡ drop 1 part ++ take 1 part → take (len - 1) (put_mid k (len - k) xs ys) ≡ remove (take len xs) k
closed xs k len part ys b r p e = ap (λ zs. take (len - 1) (take k xs ++ (zs ++ post_of k (len - k) xs))) e ∙ ap (take (len - 1)) seam ∙ take_at (take k xs ++ drop 1 part) (take 1 part ++ post_of k (len - k) xs) (len - 1) long ∙ ap₂ {C = List _} (λ us vs. us ++ vs) (sym (take-take k len xs (omega arith))) (ap (drop 1) (p ∙ between_is xs k len) ∙ drop-drop 1 k (take len xs) ∙ ap (λ n. drop n (take len xs)) (add-one k))
  where
    seam : take k xs ++ ((drop 1 part ++ take 1 part) ++ post_of k (len - k) xs) ≡ (take k xs ++ drop 1 part) ++ (take 1 part ++ post_of k (len - k) xs)
    seam = ap (λ zs. take k xs ++ zs) (append_assoc (drop 1 part) (take 1 part) (post_of k (len - k) xs)) ∙ sym (append_assoc (take k xs) (drop 1 part) (take 1 part ++ post_of k (len - k) xs))

    long : length (take k xs ++ drop 1 part) ≡ len - 1
    long =
        let front : length (take k xs) ≡ k = length-take-le k xs (omega arith) in
        let mid : length part ≡ len - k = ap length p ∙ length-take-le (len - k) (drop k xs) (omega (arith, length-drop k xs)) in
        omega (arith, length-append (take k xs) (drop 1 part), front, length-drop 1 part, mid)

pub removed_some : {X : Type 0} (xs ys : List X) (k len : ℕ) (x : X) → k < len → len ≤ length xs → take (len - 1) ys ≡ remove (take len xs) k → removed (take len xs) k ≡ record { answer = Some (slice_index_or xs k x); after = take (len - 1) ys }
removed_some xs ys k len x b r e =
    ap₂ {C = Removed _} (λ a u. record { answer = a; after = u }) (slice_get-get_or (take len xs) k x (omega (arith, length-take-le len xs r)) ∙ ap Some (get_or-take len xs k x b)) (sym e)

pub removed_none : {X : Type 0} (xs : List X) (k len : ℕ) → len ≤ k → removed (take len xs) k ≡ record { answer = None; after = take len xs }
removed_none xs k len b = ap₂ {C = Removed _} (λ a u. record { answer = a; after = u }) (slice_get_past (take len xs) k (omega (arith, length-take len xs))) (same_lists _ _ (search (rules, places)) (λ k d h. grind (arith, places)))
