-- The new windows of a product, as lists.
use Rattle.std.proofs.Common.{◌≡◌, ℕ, ◌<◌, true, false, ◌||◌, eqb, ltb, List, [], ◌∷◌, length, ℤ, pos, negsuc, ◌≤ℤ◌, None, Option, MatchOption, sym, refl, ap, ◌∙◌, subst, ap₂, arith}
use Rattle.std.specs.Int.{int_min, int_max}
use Rattle.std.proofs.lemmas.Int.{ints}
use Rattle.std.proofs.lemmas.Bool.Decides.{nat_tests}
use Rattle.windows.specs.Sets.{range, between, least, greatest}
use Rattle.windows.specs.Rows.{Stands}
use Rattle.windows.specs.declared.span.Span.{Span}
use Rattle.windows.specs.SetLaws.{kept_range, least_range, greatest_range, range_some}
use Rattle.windows.proofs.KindLaws.{not_none}
use Rattle.rulebook.specs.Tables.{Table, window}
use Rattle.rulebook.specs.Rules.{narrowed}
use Rattle.rulebook.specs.Answers.{outcome}
use Rattle.rules.specs.Pointwise.{rule_of, Entry, written}
use Rattle.rules.specs.Writing.{pushed}
use Rattle.rules.proofs.WritingLaws.{window_inside, written_made, outcome_none}
use Rattle.sums.specs.Steps.{WindowOf}
use Rattle.products.specs.Products.{least_product, greatest_product, multiplied, weakly_divides, divided, product_new, product_reads, product_rule, repeated, Apart}
use Rattle.products.proofs.ProductLaws.{of_same, at_p, at_q, at_r, product_unread, product_covers}

-- ---- one window
pub multiplied_is : (lo hi a b c d from to : ℤ) (o : Option Span) → from ≡ least_product (range a b) (range c d) → to ≡ greatest_product (range a b) (range c d) → WindowOf (range (int_max lo from) (int_min hi to)) o → WindowOf (multiplied (range lo hi) (range a b) (range c d)) o
unfolding multiplied
multiplied_is lo hi a b c d from to o e f w = subst (λ s. WindowOf s o) (sym (kept_range lo hi from to (between (least_product (range a b) (range c d)) (greatest_product (range a b) (range c d))) (λ v l h. ap₂ (λ x y. between x y v) (sym e) (sym f)))) w

least_is : (lo hi : ℤ) → lo ≤ℤ hi → least (range lo hi) ≡ lo
least_is lo hi h = least_range (λ v. v) lo hi lo h (λ v l g. l) lo (omega (arith, ints)) h refl

greatest_is : (lo hi : ℤ) → lo ≤ℤ hi → greatest (range lo hi) ≡ hi
greatest_is lo hi h = greatest_range (λ v. v) lo hi hi h (λ v l g. g) hi h (omega (arith, ints)) refl

pub divided_is : (lo hi a b c d from to : ℤ) (o : Option Span) → Stands lo hi → a ≤ℤ b → c ≤ℤ d → ((v : ℤ) → negsuc 999999 ≤ℤ v → v ≤ℤ pos 1000000 → weakly_divides a b c d v ≡ between from to v) → WindowOf (range (int_max lo from) (int_min hi to)) o → WindowOf (divided (range lo hi) (range a b) (range c d)) o
unfolding divided
divided_is lo hi a b c d from to o s h k q w = subst (λ s. WindowOf s o) (sym (kept_range lo hi from to (weakly_divides (least (range a b)) (greatest (range a b)) (least (range c d)) (greatest (range c d))) (λ v l g. ends v ∙ q v (omega (arith, ints, s.1)) (omega (arith, ints, s.2))))) w
  where
    ends : (v : ℤ) → weakly_divides (least (range a b)) (greatest (range a b)) (least (range c d)) (greatest (range c d)) v ≡ weakly_divides a b c d v
    ends v = ap₂ (λ x y. weakly_divides x y (least (range c d)) (greatest (range c d)) v) (least_is a b h) (greatest_is a b h) ∙ ap₂ (λ x y. weakly_divides a b x y v) (least_is c d k) (greatest_is c d k)

-- ---- the three windows
-- the entries for p, q and r
abbrev pub three_entries : ℕ → ℕ → ℕ → List ℤ → List ℤ → List ℤ → List Entry
three_entries p q r x y z = record { at = p; new = x } ∷ (record { at = q; new = y } ∷ (record { at = r; new = z } ∷ []))

-- they give the rule's outcome
pub three_written : (p q r : ℕ) (T : Table) (es : List Entry) (a b c d e f : ℤ) (x y z : List ℤ) → repeated p q r ≡ false → a ≤ℤ b → c ≤ℤ d → e ≤ℤ f → range a b ≡ window T p → range c d ≡ window T q → range e f ≡ window T r → es ≡ three_entries p q r x y z → x ≡ divided (range a b) (range e f) (range c d) → y ≡ divided (range c d) (range e f) (range a b) → z ≡ multiplied (range e f) (range a b) (range c d) → written T es ≡ outcome (rule_of (product_rule p q r)) T
three_written p q r T es a b c d e f x y z n h k l wp wq wr i ex ey ez =
    let jp = inside a b p h wp in
    let jq = inside c d q k wq in
    let jr = inside e f r l wr in
    ap (written T) i ∙ written_made (product_rule p q r) T (three_entries p q r x y z) (omega arith) (new-p, (new-q, (new-r, tt))) (λ j _ u. sym (product_unread p q r T j (unread j u)))
  where
    inside : (lo hi : ℤ) (j : ℕ) → lo ≤ℤ hi → range lo hi ≡ window T j → j < length T
    inside lo hi j h w = window_inside T j (λ m. not_none (range lo hi) (range_some lo hi h) (w ∙ m))

    new-p : x ≡ product_new p q r T p
    new-p = ex ∙ of_same divided wp wr wq ∙ sym (at_p p q r T p (grind (arith, nat_tests)) (grind (arith, nat_tests)))

    new-q : y ≡ product_new p q r T q
    new-q = ey ∙ of_same divided wq wr wp ∙ sym (at_q p q r T q (grind (arith, nat_tests)) (grind (arith, nat_tests)) (grind (arith, nat_tests)))

    new-r : z ≡ product_new p q r T r
    new-r = ez ∙ of_same multiplied wr wp wq ∙ sym (at_r p q r T r (grind (arith, nat_tests)))

    unread : (j : ℕ) → (eqb p j || (eqb q j || (eqb r j || false))) ≡ false → product_reads p q r j ≡ false
    unread j u = grind arith

-- so they are listed
pub three_pushed : (p q r : ℕ) (es fs gs hs : List Entry) (x y z : List ℤ) → Apart p q r → es ≡ [] → fs ≡ pushed es (record { at = p; new = x }) → gs ≡ pushed fs (record { at = q; new = y }) → hs ≡ pushed gs (record { at = r; new = z }) → hs ≡ three_entries p q r x y z
three_pushed p q r es fs gs hs x y z (a, b) i j k l =
    let bp : ltb p 64 ≡ true = grind (arith, nat_tests) in
    let bq : ltb q 64 ≡ true = grind (arith, nat_tests) in
    let br : ltb r 64 ≡ true = grind (arith, nat_tests) in
    let pq : eqb p q ≡ false = grind (arith, nat_tests) in
    let pr : eqb p r ≡ false = grind (arith, nat_tests) in
    let qr : eqb q r ≡ false = grind (arith, nat_tests) in
    let f : fs ≡ record { at = p; new = x } ∷ [] = j ∙ ap (λ l. pushed l (record { at = p; new = x })) i ∙ rw bp refl in
    let g : gs ≡ record { at = p; new = x } ∷ (record { at = q; new = y } ∷ []) = k ∙ ap (λ l. pushed l (record { at = q; new = y })) f ∙ rw (bq, pq) refl in
    l ∙ ap (λ l. pushed l (record { at = r; new = z })) g ∙ rw (br, pr, qr) refl

-- where one of the three windows is missing, nothing is done
pub missing : {A : Type 0} (p q r j : ℕ) (T : Table) (o : Option A) (P : A → Type 0) → product_reads p q r j ≡ true → window T j ≡ [] → o ≡ None → MatchOption o (outcome (rule_of (product_rule p q r)) T ≡ narrowed T) P
missing p q r j T o P h z e = subst (λ o. MatchOption o (outcome (rule_of (product_rule p q r)) T ≡ narrowed T) P) (sym e) (outcome_none (product_rule p q r) T j z (product_covers p q r j h))
