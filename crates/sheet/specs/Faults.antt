-- The number and the layer of each fault.
use Rattle.std.specs.Prelude.{ℕ, List, ◌++◌, codes, decimal}
use Rattle.rulebook.specs.Answers.{book_number}
use Rattle.rulebook.specs.declared.answer.BookRefusal.{BookRefusal}
use Rattle.rulebook.specs.declared.answer.BookRefusal.TheVariants as book
use Rattle.plan.specs.Numbers.{plan_number}
use Rattle.plan.specs.declared.answer.PlanRefusal.{PlanRefusal}
use Rattle.plan.specs.declared.answer.PlanRefusal.TheVariants as plan
use Rattle.records.specs.Records.{sheet_number}
use Rattle.sheet.specs.declared.fault.Layer.{Layer}
use Rattle.sheet.specs.declared.fault.Layer.TheVariants as layer
use Rattle.sheet.specs.declared.fault.Cause.{Cause}
use Rattle.sheet.specs.declared.fault.Cause.TheVariants as cause
use Rattle.sheet.specs.declared.fault.Fault.{Fault}

-- the number of the innermost refusal
abbrev pub number_of : Cause → ℕ
number_of (cause.Sheet f) = sheet_number f
number_of (cause.Plan f) = plan_number f
number_of (cause.Book f) = book_number f

-- 1 to 4 are the plan's, 5 to 10 the book's
abbrev pub book_layer : BookRefusal → Layer
book_layer book.Full = layer.Plan
book_layer book.Terms = layer.Book
book_layer book.Window = layer.Book
book_layer book.Repeated = layer.Book
book_layer book.Weight = layer.Book
book_layer book.Bound = layer.Book
book_layer book.Row = layer.Book

-- 11 to 14 are the plan's too
abbrev pub plan_layer : PlanRefusal → Layer
plan_layer plan.Windows = layer.Plan
plan_layer plan.Store = layer.Plan
plan_layer plan.Length = layer.Plan
plan_layer plan.Window = layer.Book
plan_layer plan.Marks = layer.Plan
plan_layer plan.Handed = layer.Plan
plan_layer plan.Ended = layer.Plan
plan_layer plan.Impossible = layer.Plan
plan_layer (plan.Book f) = book_layer f

-- 20 to 27 are the sheet's
abbrev pub layer_of : Cause → Layer
layer_of (cause.Sheet f) = layer.Sheet
layer_of (cause.Plan f) = plan_layer f
layer_of (cause.Book f) = book_layer f

-- the name of a layer
abbrev pub layer_name : Layer → List ℕ
layer_name layer.Sheet = codes "sheet"
layer_name layer.Plan = codes "plan"
layer_name layer.Book = codes "book"

-- the line that a refused sheet is answered by: the refusal's number, its layer, and the first byte that was not taken
abbrev pub fault_line : Fault → List ℕ
fault_line f = codes "refused " ++ (decimal (number_of f.cause) ++ (codes " " ++ (layer_name (layer_of f.cause) ++ (codes " " ++ decimal f.at))))
