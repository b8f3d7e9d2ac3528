use Rattle.std.proofs.Common.{◌∙◌, rules}
use Rattle.std.proofs.lemmas.Iterator.{YieldsList-from_slice}
use Rattle.std.proofs.lemmas.Iterator.Search.{all_from_yields_List}
use borrow.Author.Tests.{tests}
use Rattle.sums.specs.Questions.{weighs}
use Rattle.sums.proofs.QuestionLaws.{fit_all}
use Rattle.sums.proofs.questions.weights_fit.Goals as goal

pub returns : goal.returns
returns c = all_from_yields_List (λ t. weighs t.weight) _ _ _ c.all.ensures.ran (YieldsList-from_slice c.args.terms.now cc) (λ x b q k. search (rules, tests)) ∙ fit_all c.args.terms.now
