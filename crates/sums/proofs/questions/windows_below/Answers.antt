use Rattle.std.proofs.Common.{◌∙◌, nat_lt, rules}
use Rattle.std.proofs.lemmas.Iterator.{YieldsList-from_slice}
use Rattle.std.proofs.lemmas.Iterator.Search.{all_from_yields_List}
use borrow.Author.Tests.{tests}
use Rattle.sums.proofs.QuestionLaws.{below_all}
use Rattle.sums.proofs.questions.windows_below.Goals as goal

pub returns : goal.returns
returns c = all_from_yields_List (λ t. nat_lt t.window c.args.n) _ _ _ c.all.ensures.ran (YieldsList-from_slice c.args.terms.now cc) (λ x b q k. search (rules, tests)) ∙ below_all c.args.n c.args.terms.now
