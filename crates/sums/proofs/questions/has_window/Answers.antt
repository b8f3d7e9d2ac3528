use Rattle.std.proofs.Common.{◌∙◌, ◌==◌, rules}
use Rattle.std.proofs.lemmas.Iterator.{YieldsList-from_slice}
use Rattle.std.proofs.lemmas.Iterator.Search.{any_from_yields_List}
use borrow.Author.Tests.{tests}
use Rattle.sums.proofs.QuestionLaws.{in_any}
use Rattle.sums.proofs.questions.has_window.Goals as goal

pub returns : goal.returns
returns c = any_from_yields_List (λ t. t.window == c.args.j) _ _ _ c.any.ensures.ran (YieldsList-from_slice c.args.terms.now cc) (λ x b q k. search (rules, tests)) ∙ in_any c.args.terms.now c.args.j
