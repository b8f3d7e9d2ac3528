-- What bounded lists and the library's searches say of a waiting list.
use Rattle.std.specs.Prelude.{◌≡◌, ℕ, suc, ◌+◌, ◌<◌, ◌≤◌, min, Bool, true, false, cond, not, ◌==◌, nat_lt, List, [], ◌∷◌, ◌++◌, length, Some, None, Option, refl, fold}
use Rattle.std.specs.List.{reduce, list_any, position, position_or_len, remove as without}
use Rattle.std.proofs.Common.{sym, ap, ◌∙◌, ⊎_elim, arith, append-nil, ap₂}
use Rattle.std.proofs.lemmas.Bool.{eqb-true, eqb-false, eq-eqb, ne_eqb, le-ltb, lt-ltb, cases_Bool, cond-true, cond_both, both_ways, ltb-false}
use Rattle.std.specs.Option.{is_some, unwrap_or}
use Rattle.std.proofs.lemmas.List.{take_all, drop_all}
use Rattle.bounded.specs.Lists.{Pushed, pushed, Removed, removed}
use Rattle.policies.specs.Waiting.{holds, distinct, put, remove, lowest, taking}
use Rattle.policies.specs.PlaceLaws.{put_absent}
use Rattle.policies.specs.DistinctLaws.{room_for_one}

-- the order of the two numbers in a test
turned : (a b : ℕ) → (a == b) ≡ (b == a)
turned a b = ⊎_elim (λ e. e ∙ sym (eq-eqb b a (sym (eqb-true a b e)))) (λ e. e ∙ sym (ne_eqb b a (λ q. eqb-false a b e (sym q)))) (cases_Bool (a == b))

pub any_holds : (i : ℕ) (w : List ℕ) → list_any (λ x. x == i) w ≡ holds i w
any_holds i [] = refl
any_holds i (x ∷ w) = let t = turned x i in let e = any_holds i w in cc

-- an absent number below 64 finds room
pub put_pushed : (i : ℕ) (w u : List ℕ) (r : Option ℕ) → distinct w ≡ true → i < 64 → holds i w ≡ false → pushed 64 w i ≡ record { answer = r; after = u } → u ≡ put i w
put_pushed i w u r d l h e =
    ap (λ (p : Pushed ℕ). p.after) (sym e ∙ cond-true (nat_lt (length w) 64) _ _ (lt-ltb (length w) 64 (room_for_one i w d l h))) ∙ sym (put_absent i w l h)

pub put_held : (i : ℕ) (w : List ℕ) → holds i w ≡ true → w ≡ put i w
put_held i w h = sym (cond-true (holds i w) w _ h)

pub put_above : (i : ℕ) (w : List ℕ) → 64 ≤ i → w ≡ put i w
put_above i w l = rw (le-ltb i 64 l) (cond_both (holds i w) w w (λ u. w ≡ u) (λ _. refl) (λ _. refl))

removed_there : (i : ℕ) (w : List ℕ) → without w (position_or_len (λ x. x == i) w) ≡ remove i w
removed_there i [] = refl
removed_there i (x ∷ w) = go (x == i) (turned x i) (removed_there i w)
  where
    go : (b : Bool) → b ≡ (i == x) → without w (position_or_len (λ y. y == i) w) ≡ remove i w → without (x ∷ w) (cond (not b) (1 + position_or_len (λ y. y == i) w) 0) ≡ cond (i == x) w (x ∷ remove i w)
    go true e h = rw (sym e) refl
    go false e h =
        let one : 1 + position_or_len (λ y. y == i) w ≡ suc (position_or_len (λ y. y == i) w) = omega arith in
        ap (without (x ∷ w)) one ∙ rw (sym e) (ap (λ u. x ∷ u) h)

-- rule i stands at place k
pub remove_found : (i k : ℕ) (w u : List ℕ) (r : Option ℕ) → Some k ≡ position (λ x. x == i) w → removed w k ≡ record { answer = r; after = u } → u ≡ remove i w
remove_found i k w u r f e = ap (λ (p : Removed ℕ). p.after) (sym e) ∙ ap (without w) at ∙ removed_there i w
  where
    place : ℕ
    place = position_or_len (λ x. x == i) w

    at : k ≡ place
    at = ap (λ o. unwrap_or o place) f ∙ cond_both (nat_lt place (length w)) (Some place) None (λ o. unwrap_or o place ≡ place) (λ _. refl) (λ _. refl)

-- rule i stands at no place
pub remove_missing : (i : ℕ) (w : List ℕ) → None ≡ position (λ x. x == i) w → w ≡ remove i w
remove_missing i w f = sym (append-nil w) ∙ sym (ap₂ (λ u v. u ++ v) (take_all place w past) (drop_all (suc place) w (omega (arith, past)))) ∙ removed_there i w
  where
    place : ℕ
    place = position_or_len (λ x. x == i) w

    past : length w ≤ place
    past = ⊎_elim (λ t. absurd (both_ways _ (sym (ap is_some f)) (ap is_some (cond-true (nat_lt place (length w)) (Some place) None t)))) (λ t. ltb-false place (length w) t) (cases_Bool (nat_lt place (length w)))

lowest_first : (x y : ℕ) (w : List ℕ) → lowest (min x y ∷ w) ≡ min x (lowest (y ∷ w))
lowest_first x y [] = refl
lowest_first x y (z ∷ w) = omega arith

fold_lowest : (x : ℕ) (w : List ℕ) → fold min x w ≡ lowest (x ∷ w)
fold_lowest x [] = refl
fold_lowest x (y ∷ w) = fold_lowest (min x y) w ∙ lowest_first x y w

pub least : (w : List ℕ) → reduce min w ≡ (taking lowest w).answer
least [] = refl
least (x ∷ w) = ap Some (fold_lowest x w)
