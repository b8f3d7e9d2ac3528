-- The rules of the room book, and what they are refused for.
use Rattle.std.specs.Prelude.{ℕ, Option}
use Rattle.rulebook.specs.Rules.{Rule}
use Rattle.rulebook.specs.declared.answer.BookRefusal.{BookRefusal}
use Rattle.rules.specs.Pointwise.{rule_of}
use Rattle.pairs.specs.Pairs.{differ_rule, same_rule, pair_asks}
use Rattle.sets.specs.Masks.{parts}
use Rattle.steps.specs.Steps.{step_rule, step_asks}
use Rattle.steps.specs.Meaning.{step_meaning}
use Rattle.books.specs.declared.post.RoomPost.{RoomPost}
use Rattle.books.specs.declared.post.RoomPost.TheVariants as post
use Rattle.books.specs.declared.room.RoomRule.{RoomRule}
use Rattle.books.specs.declared.room.RoomRule.TheVariants as room

-- what a rule of the book is
abbrev pub room_rule : RoomRule → Rule
room_rule (room.Differ x) = rule_of (differ_rule parts x.p x.q)
room_rule (room.Same x) = rule_of (same_rule x.p x.q)
room_rule (room.Step s) = step_meaning s

-- what a posted rule means
abbrev pub room_meaning : RoomPost → Rule
room_meaning (post.Differ p q) = rule_of (differ_rule parts p q)
room_meaning (post.Same p q) = rule_of (same_rule p q)
room_meaning (post.Step p q k) = rule_of (step_rule k p q)

-- what a posted rule is refused for on n windows
abbrev pub room_asks : RoomPost → ℕ → Option BookRefusal
room_asks (post.Differ p q) n = pair_asks p q n
room_asks (post.Same p q) n = pair_asks p q n
room_asks (post.Step p q k) n = step_asks p q k n
