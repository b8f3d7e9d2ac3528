-- The questions that each call is asked, in their order, and what it answers and leaves.
use Rattle.std.specs.Prelude.{ℕ, ◌*◌, Bool, false, cond, ◌&&◌, List, [], length, ℤ, Some, None, Ok, Err, Option, Result, ◌==◌, nat_le, nat_lt}
use Rattle.rulebook.specs.Tables.{Table, window, all_filled}
use Rattle.rulebook.specs.Rules.{Rule}
use Rattle.rulebook.specs.Answers.{reach_of}
use Rattle.rulebook.specs.declared.answer.BookRefusal.{BookRefusal}
use Rattle.plan.specs.States.{State, state}
use Rattle.plan.specs.Settling.{settling}
use Rattle.plan.specs.Calls.{making, posting, cutting, marking, is_open, keeping, taking_back}
use Rattle.plan.specs.declared.answer.Verdict.{Verdict}
use Rattle.plan.specs.declared.answer.Cutting.{Cutting}
use Rattle.plan.specs.declared.answer.Closing.{Closing}
use Rattle.plan.specs.declared.answer.Closing.TheVariants.{Done}
use Rattle.plan.specs.declared.answer.PlanRefusal.{PlanRefusal}
use Rattle.plan.specs.declared.answer.PlanRefusal.TheVariants.{Windows, Store, Length, Window, Marks, Handed, Ended, Impossible, Book}
use Rattle.plan.specs.declared.plan.marks.Mark.{Mark}

-- are there 1 to 64 windows, none of them empty
abbrev pub is_table : Table → Bool
is_table T = nat_le 1 (length T) && (nat_le (length T) 64 && all_filled T)

-- what a board is refused for: its windows, its store of this length, and whether there are as many windows as wanted
abbrev pub board_refusal : Table → ℕ → Bool → Option PlanRefusal
board_refusal T long wanted = cond (is_table T) (cond (nat_le (16 * length T) long) (cond wanted None (Some Length)) (Some Store)) (Some Windows)

-- what the board of a state, with a store of this length, is refused for
abbrev pub refused : ℕ → State → Option PlanRefusal
refused long s = board_refusal s.table long (length s.table == s.windows)

-- what a board is refused for by the making of a plan with these rules
abbrev pub make_refused : List Rule → Table → ℕ → Option PlanRefusal
make_refused rules T long = board_refusal T long (nat_le (reach_of rules 64) (length T))

-- the first refusal, if there is one
abbrev pub or_else : Option PlanRefusal → Option PlanRefusal → Option PlanRefusal
or_else (Some f) o = Some f
or_else None o = o

-- a book's refusal, as the plan carries it
abbrev pub by_book : Option BookRefusal → Option PlanRefusal
by_book (Some f) = Some (Book f)
by_book None = None

-- is window j in the table
abbrev pub window_refusal : ℕ → Table → Option PlanRefusal
window_refusal j T = cond (nat_lt j (length T)) None (Some Window)

-- is the plan still possible
abbrev pub possible_refusal : State → Option PlanRefusal
possible_refusal s = cond s.impossible (Some Impossible) None

-- are fewer than 16 marks open, and fewer than 1,000,000,000 handed out
abbrev pub mark_refusal : State → Option PlanRefusal
mark_refusal s = cond (nat_lt (length s.marks) 16) (cond (nat_lt s.handed 1000000000) None (Some Handed)) (Some Marks)

-- is mark m still open
abbrev pub open_refusal : ℕ → State → Option PlanRefusal
open_refusal m s = cond (is_open m s.marks) None (Some Ended)

-- what a call answers, and the state after it
pub record Call (A : Type 0) : Type 0 where
  pub answer : Result A PlanRefusal
  pub after : State

-- a refused call answers its refusal and changes nothing
abbrev pub unless : {A : Type 0} → Option PlanRefusal → State → Call A → Call A
unless (Some f) s c = record { answer = Err f; after = s }
unless None s c = c

-- settling, on a board with a store of this length
abbrev pub settle_call : (List ℕ → ℕ) → ℕ → State → Call Verdict
settle_call choice long s = unless (refused long s) s (record { answer = Ok (settling choice s).verdict; after = (settling choice s).after })

-- posting a rule for which the book has this refusal, if any
abbrev pub post_call : Rule → Option BookRefusal → ℕ → State → Call ℕ
post_call r o long s = unless (or_else (refused long s) (by_book o)) s (record { answer = Ok (length s.rules); after = posting r s })

-- meeting window j with g
abbrev pub cut_call : ℕ → List ℤ → ℕ → State → Call Cutting
cut_call j g long s = unless (or_else (refused long s) (window_refusal j s.table)) s (record { answer = Ok (cutting j g s).answer; after = (cutting j g s).after })

-- handing out a mark
abbrev pub mark_call : ℕ → State → Call Mark
mark_call long s = unless (or_else (refused long s) (mark_refusal s)) s (record { answer = Ok (record { number = s.handed }); after = marking s })

-- keeping mark m
abbrev pub keep_call : ℕ → ℕ → State → Call Closing
keep_call m long s = unless (or_else (refused long s) (open_refusal m s)) s (record { answer = Ok Done; after = keeping m s })

-- taking mark m back
abbrev pub back_call : ℕ → ℕ → State → Call Closing
back_call m long s = unless (or_else (refused long s) (open_refusal m s)) s (record { answer = Ok Done; after = taking_back m s })

-- the numbers of window j, unless its showing is refused
abbrev pub shown : Option PlanRefusal → List ℤ → Result (List ℤ) PlanRefusal
shown (Some f) s = Err f
shown None s = Ok s

-- showing window j
abbrev pub show_call : ℕ → ℕ → State → Result (List ℤ) PlanRefusal
show_call j long s = shown (or_else (refused long s) (or_else (window_refusal j s.table) (possible_refusal s))) (window s.table j)

-- an answered window, by its numbers
abbrev pub told : {W : Type 0} → (W → List ℤ) → Result W PlanRefusal → Result (List ℤ) PlanRefusal
told numbers (Ok w) = Ok (numbers w)
told numbers (Err f) = Err f

-- what a making answers, and the state of the plan that it gives
pub record Made : Type 0 where
  pub refusal : Option PlanRefusal
  pub after : State

-- a refused plan is for 0 windows, and its policy's list is as it came
abbrev pub made_unless : Option PlanRefusal → List Rule → List ℕ → Table → Made
made_unless (Some f) rules w T = record { refusal = Some f; after = state rules w false T 0 [] 0 }
made_unless None rules w T = record { refusal = None; after = making rules T }

-- making a plan of these rules and this waiting list, on a board with these windows and a store of this length
abbrev pub make_call : List Rule → List ℕ → Table → ℕ → Made
make_call rules w T long = made_unless (make_refused rules T long) rules w T
