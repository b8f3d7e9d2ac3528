-- The state of a plan with its board.
use Rattle.std.specs.Prelude.{◌≡◌, List, map, ℤ, Some, None, Option}
use Rattle.windows.specs.declared.window.Window.{Ghosts as Windows}
use Rattle.rulebook.specs.Tables.{Table}
use Rattle.rulebook.specs.declared.rulebook.RuleBook.{Ghosts as Rules}
use Rattle.policies.specs.declared.policy.Policy.{Ghosts as Waits}
use Rattle.plan.specs.States.{State}
use Rattle.plan.specs.Views.{view}
use Rattle.plan.specs.declared.answer.PlanRefusal.{PlanRefusal}
use Rattle.plan.specs.declared.board.Board.{Board}
use Rattle.plan.specs.declared.plan.Plan.{Plan}

-- the windows of a board
abbrev pub table : {W Row : Type 0} → (Row → List ℤ) → Board W Row → Table
table stands board = map stands board.rows.now

-- a plan and its board, by what their rules, waiting lists and rows mean
abbrev pub state_of : {B P W Row X Y Z : Type 0} → Rules B W X Row → Waits P → Windows W Row → Plan B P W Y Z → Board W Row → State
state_of book policy kind plan board = view kind.stands (book.rules plan.book) (policy.waiting plan.policy) plan.status board.rows.now board.store.now

-- what holds of a refused making
abbrev pub IfRefused : Option PlanRefusal → Type 0 → Type 0
IfRefused (Some f) P = P
IfRefused None P = Unit {0}

-- the board lends the rows and the store that it lent before
abbrev pub LendsOn : {W Row : Type 0} → Board W Row → Board W Row → Type 0
LendsOn old new = (new.rows.ghost_name ≡ old.rows.ghost_name) × (new.store.ghost_name ≡ old.store.ghost_name)
