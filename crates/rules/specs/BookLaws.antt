-- The laws of a book, from those of its rules.
use Rattle.std.specs.Prelude.{◌≡◌, ℕ, zero, suc, ◌<◌, ◌≤◌, Bool, true, false, cond, List, [], ◌∷◌, length, get_or, take, ℤ, Some, None, Option, nat_lt, refl}
use Rattle.std.proofs.Common.{sym, ap, subst, arith}
use Rattle.std.proofs.lemmas.List.{length-map, length-take}
use Rattle.rulebook.specs.Tables.{Table, window, Inside, Every}
use Rattle.rulebook.specs.Rules.{Rule, narrowed, missing, Lawful}
use Rattle.rulebook.specs.declared.answer.BookRefusal.{BookRefusal}
use Rattle.rulebook.specs.declared.answer.BookRefusal.TheVariants.{Full}
use Rattle.rules.specs.Books.{slot_rule, slot_rules, book_refuses}

-- the rule that narrows nothing keeps the laws
pub missing_lawful : (sets : List ℤ → Type 0) → Lawful sets missing
missing_lawful sets = record { shrinks = λ T U e h. subst (λ V. Every sets V × Inside V T) (same T U h) (e, record { long = refl; each = λ j v i. i }); unread = λ T U j e h q. ap (λ V. window V j) (sym (same T U h)); local = λ T U e f l a. a; monotone = λ T U T' e f i h. (U, refl, subst (λ V. Inside V U) (same T T' h) i); keeps = λ T p e m h. (T, refl, m) }
  where
    same : (T U : Table) → narrowed T ≡ narrowed U → T ≡ U
    same T U h = cc

-- what holds of every rule and of the missing one holds of each number's
pub at_each : {R : Type 0} (rule : R → Rule) (P : Rule → Type 0) → ((r : R) → P (rule r)) → P missing → (slots : List (Option R)) (i : ℕ) → P (get_or (slot_rules rule slots) i missing)
at_each rule P f m [] i = m
at_each rule P f m (None ∷ xs) zero = m
at_each rule P f m (Some r ∷ xs) zero = f r
at_each rule P f m (x ∷ xs) (suc i) = at_each rule P f m xs i

pub accepted : (len : ℕ) (asked : Option BookRefusal) → book_refuses len asked ≡ None → asked ≡ None
accepted len asked e = go (nat_lt len 64) e
  where
    go : (b : Bool) → cond b asked (Some Full) ≡ None → asked ≡ None
    go true q = q
    go false q = let z : ◌≡◌ {A = ℕ} 0 1 = cc in absurd (omega arith)

-- ---- the laws of a book, from those of its rules
module _ {R : Type 0} (rule : R → Rule) (slots : List (Option R)) where
  pub book_lawful : (sets : List ℤ → Type 0) → ((r : R) → Lawful sets (rule r)) → (i : ℕ) → Lawful sets (get_or (slot_rules rule slots) i missing)
  book_lawful sets f = at_each rule (Lawful sets) f (missing_lawful sets) slots

  pub book_near : ((r : R) (j : ℕ) → (rule r).reads j ≡ true → j < 64) → (i j : ℕ) → (get_or (slot_rules rule slots) i missing).reads j ≡ true → j < 64
  book_near f i j = at_each rule (λ r. r.reads j ≡ true → j < 64) (λ r. f r j) (λ e. let z : ◌≡◌ {A = ℕ} 0 1 = cc in absurd (omega arith)) slots i

-- a list in which so many slots are used
pub book_few : {R : Type 0} (rule : R → Rule) (slots : List (Option R)) (len : ℕ) → len ≤ 64 → length (slot_rules rule (take len slots)) ≤ 64
book_few rule slots len h = omega (arith, length-map (take len slots) (slot_rule rule), length-take len slots)
