use Rattle.std.proofs.Common.{◌≡◌, length}
use Rattle.rulebook.specs.Answers.{any, reads_at}
use Rattle.rules.specs.Books.{book_rules}
use Rattle.rules.proofs.book.fn.BookRuleBook.reach.rposition.Given as goal

abbrev pub ensures : goal.ensures
ensures g l r = (r ≡ any (reads_at (book_rules g.R-BookRule.rule l.self.entry.now) l.j) (length (book_rules g.R-BookRule.rule l.self.entry.now))) × (l.self.exit ≡ l.self.entry)
