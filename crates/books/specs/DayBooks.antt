-- What a day book holds.
use Rattle.std.specs.Prelude.{List}
use Rattle.rulebook.specs.Rules.{Rule}
use Rattle.rules.specs.Books.{book_rules}
use Rattle.rules.specs.declared.book.Book.{Book}
use Rattle.books.specs.Day.{day_rule}
use Rattle.books.specs.declared.day.DayRule.{DayRule}

-- the rules that a day book holds
abbrev pub day_rules : Book DayRule → List Rule
day_rules = book_rules day_rule
