-- Books as lists of rules in slots.
use Rattle.std.specs.Prelude.{ℕ, cond, List, map, Some, None, Option, nat_lt}
use Rattle.bounded.specs.Lists.{items}
use Rattle.rulebook.specs.Rules.{Rule, missing}
use Rattle.rulebook.specs.declared.answer.BookRefusal.{BookRefusal}
use Rattle.rulebook.specs.declared.answer.BookRefusal.TheVariants.{Full}
use Rattle.rules.specs.declared.book.Book.{Book}

-- the rule in a slot; an empty slot is the rule that reads and narrows nothing
abbrev pub slot_rule : {R : Type 0} → (R → Rule) → Option R → Rule
slot_rule rule None = missing
slot_rule rule (Some r) = rule r

-- the rules in slots
abbrev pub slot_rules : {R : Type 0} → (R → Rule) → List (Option R) → List Rule
slot_rules rule slots = map (slot_rule rule) slots

-- the rules that a book holds
abbrev pub book_rules : {R : Type 0} → (R → Rule) → Book R → List Rule
book_rules rule b = slot_rules rule (items b.rules)

-- a book that holds 64 rules takes no more; else a rule is refused for what is wrong with it
abbrev pub book_refuses : ℕ → Option BookRefusal → Option BookRefusal
book_refuses len asked = cond (nat_lt len 64) asked (Some Full)
