use Rattle.std.proofs.Common.{map}
use Rattle.rules.proofs.BookLaws.{tells_missing}
use Rattle.rules.proofs.book.BookRuleBook.narrow.Goals as goal

pub returns-in-None-clause-equation : goal.returns-in-None-clause-equation
returns-in-None-clause-equation g c = tells_missing _ (map g.R.Kind.Window.stands c.args.rows.now) c.empty.result c.in-None.ensures c.empty.ensures
