use Rattle.std.proofs.Common.{◌∙◌, rules}
use Rattle.std.proofs.lemmas.Iterator.{YieldsList-from_slice}
use Rattle.std.proofs.lemmas.Iterator.Search.{all_from_yields_List}
use borrow.Author.Tests.{tests}
use Rattle.rulebook.specs.Tables.{filled}
use Rattle.rulebook.proofs.RowLaws.{all_are}
use Rattle.rulebook.proofs.rows.all_windows.Goals as goal

pub returns : goal.returns
returns g c = all_from_yields_List (λ r. filled (g.W.Window.stands r)) _ _ _ c.all.ensures.ran (YieldsList-from_slice c.args.rows.now cc) (λ x b q k. search (rules, tests)) ∙ all_are g.W.Window.stands c.args.rows.now
