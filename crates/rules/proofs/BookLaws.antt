-- Books as lists of rules in slots.
use Rattle.std.proofs.Common.{◌≡◌, ℕ, zero, suc, ◌+◌, ◌-◌, ◌<◌, ◌≤◌, Bool, true, false, ◌||◌, List, [], ◌∷◌, length, get_or, take, None, Some, Ok, Option, sym, refl, ap, ◌∙◌, subst, ap₂, add-one, arith}
use denote.Param.Members.{Mut, Called}
use Rattle.std.specs.List.{list_any, FoldsTo}
use Rattle.std.specs.Option.{MatchOption, IsSomeAnd}
use Rattle.std.specs.Iterator.{Yields, YieldsThen}
use Rattle.std.specs.declared.ops.Range.{Range}
use Rattle.std.proofs.lemmas.List.{length-map, get_or-map, take_all}
use Rattle.std.proofs.lemmas.List.Folds.{list_any_more}
use Rattle.rulebook.specs.Tables.{Table}
use Rattle.rulebook.specs.Rules.{Rule, narrowed, missing}
use Rattle.rulebook.specs.Answers.{outcome, member, Tells, any, reads_at, reach_of}
use Rattle.rulebook.specs.declared.set.WindowSet.{WindowSet}
use Rattle.rules.specs.Books.{slot_rule, slot_rules}
use Rattle.rules.proofs.WritingLaws.{same_window}

pub tells_missing : (r : Rule) (T : Table) (s : WindowSet) → missing ≡ r → ((j : ℕ) → member s j ≡ false) → Tells T (outcome r T) (Ok s) T
tells_missing r T s e z = subst (λ o. Tells T o (Ok s) T) both (refl, λ j. z j ∙ sym (same_window T j))
  where
    both : narrowed T ≡ outcome r T
    both = rw (← e) (grind arith)

module _ {R : Type 0} (rule : R → Rule) (slots : List (Option R)) where
  pub rule_in : (i : ℕ) (x : Option R) → i < length slots → slot_rule rule (get_or slots i x) ≡ get_or (slot_rules rule slots) i missing
  rule_in i x h = sym (get_or-map (slot_rule rule) slots i x missing h)

  -- the search over the slots is the one over the numbers
  some_below : (j n : ℕ) → n ≤ length slots → list_any (λ o. (slot_rule rule o).reads j) (take n slots) ≡ any (reads_at (slot_rules rule slots) j) n
  some_below j zero h = refl
  some_below j (suc n) h =
      ap (λ m. list_any (λ o. (slot_rule rule o).reads j) (take m slots)) (sym (add-one n)) ∙ list_any_more (λ o. (slot_rule rule o).reads j) slots n None (omega arith) ∙ ap₂ (λ a b. a || b) (some_below j n (omega arith)) (ap (λ r. r.reads j) (rule_in n None (omega arith)))

  pub some_is : (j : ℕ) → list_any (λ o. (slot_rule rule o).reads j) slots ≡ any (reads_at (slot_rules rule slots) j) (length (slot_rules rule slots))
  some_is j = ap (list_any (λ o. (slot_rule rule o).reads j)) (sym (take_all (length slots) slots (omega arith))) ∙ some_below j (length slots) (omega arith) ∙ ap (any (reads_at (slot_rules rule slots) j)) (sym (length-map slots (slot_rule rule)))

-- a range gives its last number, and loses it
abbrev Back : Range ℕ → Option ℕ → Range ℕ → Type 0
Back s r t = (t.start ≡ s.start) × MatchOption r ((s.end - s.start ≡ 0) × (t.end ≡ s.end)) (λ x. (0 < s.end - s.start) × (x ≡ t.end) × (s.end ≡ t.end + 1))

-- the reach after a window that no rule reads, and after one that some rule reads
unread : (rules : List Rule) (e x : ℕ) → e ≡ x + 1 → any (reads_at rules x) (length rules) ≡ false → reach_of rules e ≡ reach_of rules x
unread rules e x h n = ap (reach_of rules) (h ∙ add-one x) ∙ rw n refl

read : (rules : List Rule) (e x : ℕ) → e ≡ x + 1 → any (reads_at rules x) (length rules) ≡ true → reach_of rules e ≡ x + 1
read rules e x h n = ap (reach_of rules) (h ∙ add-one x) ∙ rw n (sym (add-one x))

-- A search from the end of a range finds the highest window that a rule reads: the calls keep the closure and tell what is read.
module _ {F : Type 0} {g : Mut F (ℕ × Unit {0}) Bool} (rules : List Rule) (f : F) where
  -- windows that no rule reads leave the reach
  passed : ((x : ℕ) (b : Bool) (q : F) → Called g f (x, tt) b q → (q ≡ f) × (b ≡ any (reads_at rules x) (length rules)))
      → (xs : List ℕ) (s t : Range ℕ) (p q : F) → p ≡ f → Yields Back s xs t → FoldsTo (λ a x b. Called g a (x, tt) false b) p xs q
      → (q ≡ f) × (t.start ≡ s.start) × (t.end + length xs ≡ s.end) × (reach_of rules s.end ≡ reach_of rules t.end)
  passed tells [] s t p q e y c = (sym c ∙ e, ap (λ k. k.start) (sym y), omega (arith, ap (λ k. k.end) y), ap (λ k. reach_of rules k.end) y)
  passed tells (x ∷ xs) s t p q e y c =
      let no = tells x false c.0 (subst (λ a. Called g a (x, tt) false c.0) e c.1) in
      let h = passed tells xs y.0 t c.0 q no.0 y.2 c.2 in
      (h.0, h.1 ∙ y.1.0, omega (arith, h.2, y.1.1.2), unread rules s.end x (omega (arith, y.1.1.1, y.1.1.2)) (sym no.1) ∙ ap (reach_of rules) y.1.1.1 ∙ h.3)

  pub reach_found : (s u : Range ℕ) (r : Option ℕ) → s.start ≡ 0
      → (xs : List ℕ) × (o : Option ℕ) × (q : F) × YieldsThen Back s xs o u × FoldsTo (λ a x b. Called g a (x, tt) false b) f xs q × MatchOption o (r ≡ None) (λ x. IsSomeAnd r (λ i. i + 1 + length xs ≡ s.end) × ((h : F) × Called g q (x, tt) true h))
      → ((x : ℕ) (b : Bool) (q : F) → Called g f (x, tt) b q → (q ≡ f) × (b ≡ any (reads_at rules x) (length rules)))
      → MatchOption r (reach_of rules s.end ≡ 0) (λ i. reach_of rules s.end ≡ i + 1)
  reach_found s u r z d tells = go d.1 r d.3.2 d.5
    where
      h : (d.2 ≡ f) × (d.3.0.start ≡ s.start) × (d.3.0.end + length d.0 ≡ s.end) × (reach_of rules s.end ≡ reach_of rules d.3.0.end)
      h = passed tells d.0 s d.3.0 f d.2 refl d.3.1 d.4

      go : (o w : Option ℕ) → Back d.3.0 o u → MatchOption o (w ≡ None) (λ x. IsSomeAnd w (λ i. i + 1 + length d.0 ≡ s.end) × ((j : F) × Called g d.2 (x, tt) true j)) → MatchOption w (reach_of rules s.end ≡ 0) (λ i. reach_of rules s.end ≡ i + 1)
      go None None e m =
          let none : d.3.0.end ≡ 0 = omega (arith, e.1.0, h.1, z) in
          h.3 ∙ ap (reach_of rules) none
      go None (Some i) e m = cc
      go (Some x) None e m = absurd m.0
      go (Some x) (Some i) e m =
          let yes = tells x true m.1.0 (subst (λ a. Called g a (x, tt) true m.1.0) h.0 m.1.1) in
          h.3 ∙ read rules d.3.0.end x (omega (arith, e.1.1, e.1.2)) (sym yes.1) ∙ omega (arith, h.2, m.0, e.1.1, e.1.2)
