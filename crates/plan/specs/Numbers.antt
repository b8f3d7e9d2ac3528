-- The numbers that refusals are told by.
use Rattle.std.specs.Prelude.{ℕ}
use Rattle.rulebook.specs.Answers.{book_number}
use Rattle.plan.specs.declared.answer.PlanRefusal.{PlanRefusal}
use Rattle.plan.specs.declared.answer.PlanRefusal.TheVariants as refusal

-- the number that each refusal of a plan is told by; a book's refusal keeps the book's number
abbrev pub plan_number : PlanRefusal → ℕ
plan_number refusal.Windows = 1
plan_number refusal.Store = 2
plan_number refusal.Length = 3
plan_number refusal.Window = 6
plan_number refusal.Marks = 11
plan_number refusal.Handed = 12
plan_number refusal.Ended = 13
plan_number refusal.Impossible = 14
plan_number (refusal.Book f) = book_number f
