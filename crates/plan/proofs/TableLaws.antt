-- Tables: `Inside` is an order, and a table inside another has a smaller sum of sizes, or is the same.
use Rattle.std.proofs.Common.{◌≡◌, ℕ, suc, ◌*◌, ◌<◌, ◌≤◌, ◌⊎◌, List, [], ◌∷◌, length, set, ℤ, sym, refl, ap, ◌∙◌, subst, inl, inr, ⊎_elim, suc-le-suc, arith}
use Rattle.std.proofs.lemmas.List.{ext_get_or, get_or-set_same, get_or-set_other, length-set}
use Rattle.std.proofs.lemmas.Bool.{cases_eq}
use Rattle.windows.specs.Sets.{In, Within, Rising, meet, sizes}
use Rattle.windows.specs.SetLaws.{within_both}
use Rattle.windows.proofs.KindLaws.{smaller, in_meet, meet_in}
use Rattle.rulebook.specs.Tables.{Table, Placing, window, place, Inside, Places, Every}
use Rattle.plan.proofs.ProperSets.{ProperSets}

pub inside_refl : (T : Table) → Inside T T
inside_refl T = record { long = refl; each = λ j v h. h }

pub inside_trans : {T U V : Table} → Inside T U → Inside U V → Inside T V
inside_trans h k = record { long = h.long ∙ k.long; each = λ j v i. k.each j v (h.each j v i) }

pub same_table : (T U : Table) → length T ≡ length U → ((j : ℕ) → window T j ≡ window U j) → T ≡ U
same_table T U l e = ext_get_or [] T U l (λ j _. e j)

-- the rising sets are all that a sum of sizes needs to know
pub shrunk : (T U : Table) → Every Rising T → Every Rising U → Inside U T → (sizes U < sizes T) ⊎ (U ≡ T)
shrunk [] [] rt ru i = inr refl
shrunk [] (u ∷ U) rt ru i = absurd (let e = i.long in omega arith)
shrunk (t ∷ T) [] rt ru i = absurd (let e = i.long in omega arith)
shrunk (t ∷ T) (u ∷ U) rt ru i = go (smaller u t (ru 0 (omega arith)) (rt 0 (omega arith)) (i.each 0)) (shrunk T U (λ j h. rt (suc j) (suc-le-suc h)) (λ j h. ru (suc j) (suc-le-suc h)) (record { long = let e = i.long in omega arith; each = λ j. i.each (suc j) }))
  where
    go : (length u < length t) ⊎ (u ≡ t) → (sizes U < sizes T) ⊎ (U ≡ T) → (sizes (u ∷ U) < sizes (t ∷ T)) ⊎ (u ∷ U ≡ t ∷ T)
    go (inl h) (inl k) = inl (omega arith)
    go (inl h) (inr k) = inl (omega (arith, ap sizes k))
    go (inr h) (inl k) = inl (omega (arith, ap length h))
    go (inr h) (inr k) = inr (cc)

pub every_rising : {sets : List ℤ → Type 0} (T : Table) → ProperSets sets → Every sets T → Every Rising T
every_rising T k h j l = k.rising (window T j) (h j l)

-- a bound on each size bounds the sum
pub few_in_all : {sets : List ℤ → Type 0} (T : Table) → ProperSets sets → Every sets T → sizes T ≤ 2000001 * length T
few_in_all [] k h = omega arith
few_in_all (s ∷ T) k h = omega (arith, k.few s (h 0 (omega arith)), few_in_all T k (λ j l. h (suc j) (suc-le-suc l)))

-- one window of a table of the sets replaced by another of the sets
pub every_set : (sets : List ℤ → Type 0) (T : Table) (j : ℕ) (s : List ℤ) → Every sets T → sets s → Every sets (set T j s)
every_set sets T j s h k i l = ⊎_elim same other (cases_eq i j)
  where
    l' : i < length T
    l' = simp length-set at l

    same : i ≡ j → sets (window (set T j s) i)
    same e = subst (λ (n : ℕ). n < length T → sets (window (set T j s) n)) (sym e) (λ b. rw get_or-set_same k) l'

    other : (i ≡ j → ⊥) → sets (window (set T j s) i)
    other n = rw get_or-set_other (h i l')

-- what holds of the new window at j, and of the old ones elsewhere, holds of each window
pub at_set : (T : Table) (j : ℕ) (m : List ℤ) (P : ℕ → List ℤ → Type 0) → j < length T → P j m → ((i : ℕ) → (i ≡ j → ⊥) → P i (window T i)) → (i : ℕ) → P i (window (set T j m) i)
at_set T j m P l here there i =
    ⊎_elim (λ e. subst (λ (k : ℕ). P k (window (set T j m) k)) (sym e) (subst (P j) (sym (get_or-set_same T j m [] l)) here)) (λ n. subst (P i) (sym (get_or-set_other T j i m [] n)) (there i n)) (cases_eq i j)

-- table A with window j met with g
abbrev pub met : Table → ℕ → List ℤ → Table
met A j g = set A j (meet (window A j) g)

pub met_inside : (A : Table) (j : ℕ) (g : List ℤ) → j < length A → Inside (met A j g) A
met_inside A j g l =
    record {
      long = length-set A j (meet (window A j) g);
      each = at_set A j (meet (window A j) g) (λ i s. Within s (window A i)) l (λ v h. (meet_in (window A j) g v h).0) (λ i n v h. h);
    }

-- what lies inside the one, met, and inside the other lies inside the other, met
pub inside_met : (A T V : Table) (j : ℕ) (g : List ℤ) → j < length T → length T ≡ length A → Inside V (met A j g) → Inside V T → Inside V (met T j g)
inside_met A T V j g l e h k =
    record {
      long = k.long ∙ sym (length-set T j (meet (window T j) g));
      each = at_set T j (meet (window T j) g) (λ i s. Within (window V i) s) l (λ v q. in_meet (window T j) g v (k.each j v q) (meet_in (window A j) g v (rw (get_or-set_same A j (meet (window A j) g) [] (omega arith)) at (h.each j v q))).1) (λ i n v q. k.each i v q);
    }

pub places_inside : (p : Placing) (T U : Table) → Places p T → Inside T U → Places p U
places_inside p T U h k =
    record { long = h.long ∙ k.long; each = λ j l. let q = k.long in k.each j (place p j) (h.each j (omega arith)) }

pub places_met : (A T : Table) (p : Placing) (j : ℕ) (g : List ℤ) → j < length T → length T ≡ length A → Places p (met A j g) → Places p T → Places p (met T j g)
places_met A T p j g l e h k =
    record {
      long = k.long ∙ sym (length-set T j (meet (window T j) g));
      each = λ i b. at_set T j (meet (window T j) g) (λ i s. i < length T → In (place p i) s) l (λ _. in_meet (window T j) g (place p j) (k.each j l) (meet_in (window A j) g (place p j) (rw (get_or-set_same A j (meet (window A j) g) [] (omega arith)) at (h.each j (simp length-set (omega arith))))).1) (λ i n b. k.each i b) i (simp length-set at b);
    }

-- two tables of windows that lie inside each other are the same
pub inside_both : {sets : List ℤ → Type 0} (T U : Table) → ProperSets sets → Every sets T → Every sets U → Inside T U → Inside U T → T ≡ U
inside_both {sets} T U proper t u h k = ext_get_or [] T U h.long (λ j l. within_both (window T j) (window U j) (proper.rising (window T j) (t j l)) (proper.rising (window U j) (u j (let e = h.long in omega arith))) (h.each j) (k.each j))
