-- The laws of the step rule, what it means, and what it is refused for.
use Rattle.std.proofs.Common.{◌≡◌, ℕ, ◌<◌, true, ◌⊎◌, List, [], ◌∷◌, length, ℤ, ◌+ℤ◌, neg_ℤ, Some, None, Option, refl, ap, ◌∙◌, subst, arith}
use Rattle.std.proofs.lemmas.Int.{ints}
use Rattle.windows.specs.Sets.{eq_z, has, In}
use Rattle.windows.specs.Kinds.{Of}
use Rattle.windows.specs.SetLaws.{tests, within_kept, in_kept, kept_passes, rising_kept}
use Rattle.windows.proofs.KindLaws.{part_of}
use Rattle.sets.specs.Masks.{parts}
use Rattle.rulebook.specs.Tables.{Table, window, place}
use Rattle.rulebook.specs.Rules.{Lawful, Means}
use Rattle.rulebook.specs.Answers.{outcome}
use Rattle.rulebook.specs.declared.answer.BookRefusal.{BookRefusal}
use Rattle.rules.specs.Pointwise.{rule_of, Entry, written}
use Rattle.pairs.specs.Pairs.{Apart, pair_reads, pair_asks}
use Rattle.pairs.proofs.PairLaws.{PairLaws, pair_lawful, pair_within, none_given, two_given}
use Rattle.steps.specs.Steps.{partnered, step_rule, in_reach, asks_distance, step_asks}

-- any part of a set is a set of the kind
part : (k : ℤ) (s t : List ℤ) → Of parts s → 0 < length (partnered k s t) → Of parts (partnered k s t)
part k s t o n = part_of parts s (partnered k s t) o (within_kept (λ v. has t (v +ℤ k)) s) (rising_kept (λ v. has t (v +ℤ k)) s o.rising) refl n

step_laws : (k : ℤ) → PairLaws parts (λ s t. partnered k s t) (λ s t. partnered (neg_ℤ k) t s) (λ v w. eq_z w (v +ℤ k))
step_laws k =
    record {
      within_f = λ s t o p. within_kept (λ v. has t (v +ℤ k)) s;
      within_g = λ s t o p. within_kept (λ v. has s (v +ℤ neg_ℤ k)) t;
      kind_f = λ s t o p n. part k s t o n;
      kind_g = λ s t o p n. part (neg_ℤ k) t s p n;
      mono_f = λ s t s' t' _ _ _ _ a b v i. in_kept (λ x. has t' (x +ℤ k)) s' v (a v (within_kept (λ x. has t (x +ℤ k)) s v i)) (b (v +ℤ k) (kept_passes (λ x. has t (x +ℤ k)) s v i));
      mono_g = λ s t s' t' _ _ _ _ a b v i. in_kept (λ x. has s' (x +ℤ neg_ℤ k)) t' v (b v (within_kept (λ x. has s (x +ℤ neg_ℤ k)) t v i)) (a (v +ℤ neg_ℤ k) (kept_passes (λ x. has s (x +ℤ neg_ℤ k)) t v i));
      keeps_f = λ s t v w _ _ i j e. in_kept (λ x. has t (x +ℤ k)) s v i (subst (λ x. In x t) (there v w e) j);
      keeps_g = λ s t v w _ _ i j e. in_kept (λ x. has s (x +ℤ neg_ℤ k)) t w j (subst (λ x. In x s) (back v w e) i);
    }
  where
    there : (v w : ℤ) → eq_z w (v +ℤ k) ≡ true → w ≡ v +ℤ k
    there v w e = grind (arith, tests)

    back : (v w : ℤ) → eq_z w (v +ℤ k) ≡ true → v ≡ w +ℤ neg_ℤ k
    back v w e = let q = there v w e in omega (arith, ints)

pub step_lawful : (k : ℤ) (p q : ℕ) → Lawful (Of parts) (rule_of (step_rule k p q))
step_lawful k p q = pair_lawful parts _ _ _ (step_laws k) p q

pub step_means : (k : ℤ) (p q : ℕ) → Means (rule_of (step_rule k p q)) (λ P. place P q ≡ place P p +ℤ k)
step_means k p q = record { only = λ P e. grind (arith, tests); all = λ P e. grind (arith, tests) }

-- ---- what a step is refused for
pub accepted : (p q : ℕ) (k : ℤ) (n : ℕ) → pair_asks p q n ≡ None → in_reach k ≡ true → step_asks p q k n ≡ None
accepted p q k n a r = rw a (rw r refl)

pub step_within : (p q : ℕ) (k : ℤ) (n j : ℕ) → step_asks p q k n ≡ None → pair_reads p q j ≡ true → j < n
step_within p q k n j e h = pair_within p q n j (windows (pair_asks p q n) e) h
  where
    windows : (o : Option BookRefusal) → asks_distance o k ≡ None → o ≡ None
    windows None e = refl
    windows (Some f) e = e

-- ---- what the code writes
-- where one of the two windows is missing, nothing is done
pub none_written : (k : ℤ) (p q : ℕ) (T : Table) (es : List Entry) → Apart p q → (window T p ≡ []) ⊎ (window T q ≡ []) → es ≡ [] → written T es ≡ outcome (rule_of (step_rule k p q)) T
none_written k p q T es a z e = (none_given (λ s t. partnered k s t) (λ s t. partnered (neg_ℤ k) t s) (λ v w. eq_z w (v +ℤ k)) p q T a es z e).1

-- the two new windows give the rule's outcome
pub both_written : (k u n : ℤ) (p q : ℕ) (T : Table) (es : List Entry) (s t x y : List ℤ) → Apart p q → u ≡ k → n ≡ neg_ℤ k → s ≡ window T p → t ≡ window T q → 0 < length s → 0 < length t → x ≡ partnered u s t → y ≡ partnered n t s → es ≡ record { at = p; new = x } ∷ (record { at = q; new = y } ∷ []) → written T es ≡ outcome (rule_of (step_rule k p q)) T
both_written k u n p q T es s t x y a eu en es' et ns nt ex ey e = (two_given (λ s t. partnered k s t) (λ s t. partnered (neg_ℤ k) t s) (λ v w. eq_z w (v +ℤ k)) p q T a es x y s t e es' et ns nt (ex ∙ ap (λ z. partnered z s t) eu) (ey ∙ ap (λ z. partnered z t s) en)).1
