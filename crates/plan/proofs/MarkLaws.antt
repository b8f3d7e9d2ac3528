-- Marks on states: what a marking adds to the copies, and how a mark is found.
use Rattle.std.specs.Prelude.{◌≢◌}
use Rattle.std.proofs.Common.{◌≡◌, ℕ, zero, suc, ◌+◌, ◌*◌, ◌^◌, ◌<◌, ◌≤◌, Bool, true, false, cond, eqb, ltb, ⊎_elim, List, [], ◌∷◌, ◌++◌, map, length, get_or, take, drop, ℤ, Some, None, Ok, Option, sym, refl, ap, ap₂, ◌∙◌, subst, mul-le-mul_right, suc-mul, mul-le-mul, add-one, arith}
use Rattle.std.proofs.lemmas.List.{length-take, length-take-le, length-drop, length_push, get_or_push, get_or_append_left, get_or-take, take-append-drop, take-append-le, drop-append-le, drop_at, take_at}
use Rattle.std.proofs.lemmas.Bool.{cond-true, cond-false, cases_eq, eq-eqb, ne_eqb, lt-ltb, le-ltb}
use Rattle.std.specs.Option.{ok_or}
use Rattle.bounded.specs.Lists.{items, Pushed, pushed}
use Rattle.bounded.specs.declared.list.BoundedList.{BoundedList}
use Rattle.rulebook.specs.Rules.{Rule}
use Rattle.plan.specs.States.{State, Copy, state}
use Rattle.plan.specs.Calls.{is_open, with_marks, keeping_at, restored, taking_back_at}
use Rattle.rulebook.specs.Tables.{Table}
use Rattle.plan.specs.Refusals.{mark_refusal, open_refusal}
use Rattle.plan.specs.Views.{no_slot, found, copy_at, copies, stored}
use Rattle.plan.specs.declared.answer.PlanRefusal.TheVariants.{Marks, Handed, Ended}
use Rattle.plan.specs.declared.status.Slot.{Slot}
use Rattle.plan.proofs.CallExits.{some_or}

-- what a search from the end tells
pub found_none : (slots : List Slot) (m d : ℕ) → ((k : ℕ) → k < d → (get_or slots k no_slot).number ≢ m) → found slots m d ≡ None
found_none slots m zero none = refl
found_none slots m (suc d) none = cond-false (eqb m (get_or slots d no_slot).number) (Some d) (found slots m d) (ne_eqb m (get_or slots d no_slot).number (λ e. none d (omega arith) (sym e))) ∙ found_none slots m d (λ k l. none k (omega arith))

pub found_some : (slots : List Slot) (m d i : ℕ) → i < d → (get_or slots i no_slot).number ≡ m → ((k : ℕ) → i + 1 ≤ k → k < d → (get_or slots k no_slot).number ≢ m) → found slots m d ≡ Some i
found_some slots m zero i l e none = absurd (omega arith)
found_some slots m (suc d) i l e none = ⊎_elim here (below (found_some slots m d i)) (cases_eq i d)
  where
    here : i ≡ d → found slots m (suc d) ≡ Some i
    here q = cond-true (eqb m (get_or slots d no_slot).number) (Some d) (found slots m d) (eq-eqb m (get_or slots d no_slot).number (sym (rw q at e))) ∙ ap Some (sym q)

    below : (i < d → (get_or slots i no_slot).number ≡ m → ((k : ℕ) → i + 1 ≤ k → k < d → (get_or slots k no_slot).number ≢ m) → found slots m d ≡ Some i) → (i ≡ d → ⊥) → found slots m (suc d) ≡ Some i
    below ih n = cond-false (eqb m (get_or slots d no_slot).number) (Some d) (found slots m d) (ne_eqb m (get_or slots d no_slot).number (λ q. none d (omega arith) (omega arith) (sym q))) ∙ ih (omega arith) e (λ k a b. none k a (omega arith))

pub found_below : (slots : List Slot) (m d k : ℕ) → found slots m d ≡ Some k → k < d
found_below slots m zero k e = cc
found_below slots m (suc d) k e = go (eqb m (get_or slots d no_slot).number) (found_below slots m d k) e
  where
    go : (b : Bool) → (found slots m d ≡ Some k → k < d) → cond b (Some d) (found slots m d) ≡ Some k → k < suc d
    go true ih e = let q : d ≡ k = cc in omega arith
    go false ih e = let h = ih e in omega arith

-- a mark that was found stands at its place
pub placed : (l : BoundedList Slot 16) (m k : ℕ) (o : Option ℕ) → o ≡ found (items l) m (length (items l)) → Ok k ≡ ok_or o Ended → (found (items l) m (length (items l)) ≡ Some k) × (k < length (items l)) × (k < 16)
placed l m k o e q =
    let f : found (items l) m (length (items l)) ≡ Some k = sym e ∙ some_or o Ended k q in
    let b = found_below (items l) m (length (items l)) k f in
    (f, b, omega (arith, b, l.few, length-take l.len l.slots))

module _ {Row : Type 0} (stands : Row → List ℤ) (slots : List Slot) (n : ℕ) (store : List Row) (m : ℕ) where
  pub copies_long : (d : ℕ) → length (copies stands slots n store d) ≡ d
  copies_long zero = refl
  copies_long (suc d) = ap suc (copies_long d)

  pub found_open : (d k : ℕ) → found slots m d ≡ Some k → is_open m (copies stands slots n store d) ≡ true
  found_open zero k e = cc
  found_open (suc d) k e = go (eqb m (get_or slots d no_slot).number) (found_open d k) e
    where
      go : (b : Bool) → (found slots m d ≡ Some k → is_open m (copies stands slots n store d) ≡ true) → cond b (Some d) (found slots m d) ≡ Some k → cond b true (is_open m (copies stands slots n store d)) ≡ true
      go true ih e = refl
      go false ih e = ih e

  pub found_ended : (d : ℕ) → found slots m d ≡ None → is_open m (copies stands slots n store d) ≡ false
  found_ended zero e = refl
  found_ended (suc d) e = go (eqb m (get_or slots d no_slot).number) (found_ended d) e
    where
      go : (b : Bool) → (found slots m d ≡ None → is_open m (copies stands slots n store d) ≡ false) → cond b (Some d) (found slots m d) ≡ None → cond b true (is_open m (copies stands slots n store d)) ≡ false
      go true ih e = cc
      go false ih e = ih e

  pub keep_found : (s : State) (d k : ℕ) → found slots m d ≡ Some k → keeping_at m s (copies stands slots n store d) ≡ with_marks s (copies stands slots n store k)
  keep_found s zero k e = cc
  keep_found s (suc d) k e = go (eqb m (get_or slots d no_slot).number) (keep_found s d k) e
    where
      go : (b : Bool) → (found slots m d ≡ Some k → keeping_at m s (copies stands slots n store d) ≡ with_marks s (copies stands slots n store k)) → cond b (Some d) (found slots m d) ≡ Some k → cond b (with_marks s (copies stands slots n store d)) (keeping_at m s (copies stands slots n store d)) ≡ with_marks s (copies stands slots n store k)
      go true ih e = let q : d ≡ k = cc in ap (λ (i : ℕ). with_marks s (copies stands slots n store i)) q
      go false ih e = ih e

  pub back_found : (s : State) (d k : ℕ) → found slots m d ≡ Some k → taking_back_at m s (copies stands slots n store d) ≡ restored s (copy_at stands slots n store k) (copies stands slots n store k)
  back_found s zero k e = cc
  back_found s (suc d) k e = go (eqb m (get_or slots d no_slot).number) (back_found s d k) e
    where
      go : (b : Bool) → (found slots m d ≡ Some k → taking_back_at m s (copies stands slots n store d) ≡ restored s (copy_at stands slots n store k) (copies stands slots n store k)) → cond b (Some d) (found slots m d) ≡ Some k → cond b (restored s (copy_at stands slots n store d) (copies stands slots n store d)) (taking_back_at m s (copies stands slots n store d)) ≡ restored s (copy_at stands slots n store k) (copies stands slots n store k)
      go true ih e = let q : d ≡ k = cc in ap (λ (i : ℕ). restored s (copy_at stands slots n store i) (copies stands slots n store i)) q
      go false ih e = ih e

-- what stands in the store before the new copy stays
stored_before : {Row : Type 0} (store rows : List Row) (from b n : ℕ) → b + n ≤ from → from ≤ length store → take n (drop b (stored store from rows)) ≡ take n (drop b store)
stored_before {Row} store rows from b n l m = front (rows ++ drop (from + length rows) store) ∙ sym (ap (λ (t : List Row). take n (drop b t)) (sym (take-append-drop from store)) ∙ front (drop from store))
  where
    long : length (take from store) ≡ from
    long = length-take-le from store m

    front : (t : List Row) → take n (drop b (take from store ++ t)) ≡ take n (drop b (take from store))
    front t = ap (take n) (drop-append-le b (take from store) t (omega (arith, long))) ∙ take-append-le n (drop b (take from store)) t (simp length-drop (omega (arith, long)))

stored_here : {Row : Type 0} (store rows : List Row) (from : ℕ) → from ≤ length store → take (length rows) (drop from (stored store from rows)) ≡ rows
stored_here {Row} store rows from m = ap (take (length rows)) (drop_at (take from store) (rows ++ drop (from + length rows) store) from (length-take-le from store m)) ∙ take_at rows (drop (from + length rows) store) (length rows) refl

-- copies of the first marks
same_marks : {Row : Type 0} (stands : Row → List ℤ) (xs ys : List Slot) (n : ℕ) (store : List Row) (d : ℕ) → ((k : ℕ) → k < d → get_or xs k no_slot ≡ get_or ys k no_slot) → copies stands xs n store d ≡ copies stands ys n store d
same_marks stands xs ys n store zero e = refl
same_marks {Row} stands xs ys n store (suc d) e = ap₂ {C = List Copy} (λ (x : Slot) cs. record { number = x.number; count = x.count; impossible = x.impossible; table = map stands (take n (drop (d * n) store)) } ∷ cs) (e d (omega arith)) (same_marks stands xs ys n store d (λ k l. e k (omega arith)))

pub closed_copies : {Row : Type 0} (stands : Row → List ℤ) (xs ys : List Slot) (n : ℕ) (store : List Row) (k : ℕ) → k ≤ length xs → ys ≡ take k xs → copies stands ys n store (length ys) ≡ copies stands xs n store k
closed_copies stands xs ys n store k l e = ap (λ zs. copies stands zs n store (length zs)) e ∙ ap (copies stands (take k xs) n store) (length-take-le k xs l) ∙ same_marks stands (take k xs) xs n store k (λ i b. get_or-take k xs i no_slot b)

-- what a push leaves where there is room
pub pushed_mark : (xs ys : List Slot) (x : Slot) (o : Option ℕ) → length xs < 16 → pushed 16 xs x ≡ record { answer = o; after = ys } → ys ≡ xs ++ (x ∷ [])
pushed_mark xs ys x o l e = sym (ap (λ (p : Pushed Slot). p.after) (sym (cond-true (ltb (length xs) 16) (record { answer = Some (length xs); after = xs ++ (x ∷ []) }) (record { answer = None; after = xs }) (lt-ltb (length xs) 16 l)) ∙ e))

-- the copies after a marking: the new one first
pub pushed_copies : {Row : Type 0} (stands : Row → List ℤ) (old new : List Slot) (store rows : List Row) (slot : Slot) → new ≡ old ++ (slot ∷ []) → length old * length rows ≤ length store → copies stands new (length rows) (stored store (length old * length rows) rows) (length new) ≡ record { number = slot.number; count = slot.count; impossible = slot.impossible; table = map stands rows } ∷ copies stands old (length rows) store (length old)
pushed_copies {Row} stands old new store rows slot e m = ap (copies stands new n after) (ap length e ∙ length_push old slot ∙ add-one d) ∙ ap₂ {C = List Copy} (λ (x : Slot) (t : List Row). record { number = x.number; count = x.count; impossible = x.impossible; table = map stands t } ∷ copies stands new n after d) top (stored_here store rows (d * n) m) ∙ ap (λ (cs : List Copy). record { number = slot.number; count = slot.count; impossible = slot.impossible; table = map stands rows } ∷ cs) (same_marks stands new old n after d below ∙ kept d (omega arith))
  where
    d : ℕ
    d = length old

    n : ℕ
    n = length rows

    after : List Row
    after = stored store (d * n) rows

    top : get_or new d no_slot ≡ slot
    top = ap (λ xs. get_or xs d no_slot) e ∙ get_or_push old slot no_slot d refl

    below : (k : ℕ) → k < d → get_or new k no_slot ≡ get_or old k no_slot
    below k l = ap (λ xs. get_or xs k no_slot) e ∙ get_or_append_left old (slot ∷ []) no_slot k l

    kept : (k : ℕ) → k ≤ d → copies stands old n after k ≡ copies stands old n store k
    kept zero l = refl
    kept (suc k) l =
        let room : suc k * n ≤ d * n = mul-le-mul_right n l in
        let room' : k * n + n ≤ d * n = rw (← suc-mul k n) room in
        ap₂ {C = List Copy} (λ (t : List Row) cs. record { number = (get_or old k no_slot).number; count = (get_or old k no_slot).count; impossible = (get_or old k no_slot).impossible; table = map stands t } ∷ cs) (stored_before store rows (d * n) (k * n) n room' m) (kept k (omega arith))

pub same_state : {q r : List Rule} {v w : List ℕ} {b c : Bool} {T U : Table} {m n : ℕ} {cs ds : List Copy} {h i : ℕ} → q ≡ r → v ≡ w → b ≡ c → T ≡ U → m ≡ n → cs ≡ ds → h ≡ i → state q v b T m cs h ≡ state r w c U n ds i
same_state e1 e2 e3 e4 e5 e6 e7 = cc

-- the questions that the calls on marks are asked
pub may_mark : (s : State) → length s.marks < 16 → s.handed < 1000000000 → mark_refusal s ≡ None
may_mark s l m = cond-true (ltb (length s.marks) 16) (cond (ltb s.handed 1000000000) None (Some Handed)) (Some Marks) (lt-ltb (length s.marks) 16 l) ∙ cond-true (ltb s.handed 1000000000) None (Some Handed) (lt-ltb s.handed 1000000000 m)

pub too_many : (s : State) → 16 ≤ length s.marks → mark_refusal s ≡ Some Marks
too_many s l = cond-false (ltb (length s.marks) 16) (cond (ltb s.handed 1000000000) None (Some Handed)) (Some Marks) (le-ltb (length s.marks) 16 l)

pub all_handed : (s : State) → length s.marks < 16 → 1000000000 ≤ s.handed → mark_refusal s ≡ Some Handed
all_handed s l m = cond-true (ltb (length s.marks) 16) (cond (ltb s.handed 1000000000) None (Some Handed)) (Some Marks) (lt-ltb (length s.marks) 16 l) ∙ cond-false (ltb s.handed 1000000000) None (Some Handed) (le-ltb s.handed 1000000000 m)

pub still_open : (m : ℕ) (s : State) → is_open m s.marks ≡ true → open_refusal m s ≡ None
still_open m s e = cond-true (is_open m s.marks) None (Some Ended) e

pub has_ended : (m : ℕ) (s : State) → is_open m s.marks ≡ false → open_refusal m s ≡ Some Ended
has_ended m s e = cond-false (is_open m s.marks) None (Some Ended) e

-- the places of 16 copies lie in the store
pub room_for : (d n long : ℕ) → d < 16 → 16 * n ≤ long → d * n + n ≤ long
room_for d n long l m = let h : suc d * n ≤ 16 * n = mul-le-mul_right n l in omega (arith, suc-mul d n)

pub marked_copies : {Row : Type 0} (stands : Row → List ℤ) (old new : List Slot) (store store' rows : List Row) (n : ℕ) (slot : Slot) → new ≡ old ++ (slot ∷ []) → length rows ≡ n → store' ≡ stored store (length old * n) rows → length old * n ≤ length store → copies stands new n store' (length new) ≡ record { number = slot.number; count = slot.count; impossible = slot.impossible; table = map stands rows } ∷ copies stands old n store (length old)
marked_copies {Row} stands old new store store' rows n slot pushed e kept room =
    ap (λ (x : List Row). copies stands new n x (length new)) kept ∙ subst (λ (x : ℕ). length old * x ≤ length store → copies stands new x (stored store (length old * x) rows) (length new) ≡ record { number = slot.number; count = slot.count; impossible = slot.impossible; table = map stands rows } ∷ copies stands old x store (length old)) e (pushed_copies stands old new store rows slot pushed) room

pub room_at : (d n long r : ℕ) → r ≡ n → d < 16 → 16 * r ≤ long → d * n + r ≤ long
room_at d n long r e l m = let h = room_for d r long l m in omega (arith, ap (λ (x : ℕ). d * x) e)

pub small_place : (d n : ℕ) → d < 16 → n ≤ 64 → d * n < 2 ^ 64
small_place d n l m = let lt : d ≤ 16 = omega arith in let h : d * n ≤ 16 * 64 = mul-le-mul {m₂ = 64} lt m in omega arith
