-- What a room book holds.
use Rattle.std.specs.Prelude.{List}
use Rattle.rulebook.specs.Rules.{Rule}
use Rattle.rules.specs.Books.{book_rules}
use Rattle.rules.specs.declared.book.Book.{Book}
use Rattle.books.specs.Room.{room_rule}
use Rattle.books.specs.declared.room.RoomRule.{RoomRule}

-- the rules that a room book holds
abbrev pub room_rules : Book RoomRule → List Rule
room_rules = book_rules room_rule
