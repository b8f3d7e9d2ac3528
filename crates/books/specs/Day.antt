-- The rules of the day book, and what they are refused for.
use Rattle.std.specs.Prelude.{ℕ, true, false, Option}
use Rattle.rulebook.specs.Rules.{Rule}
use Rattle.rulebook.specs.declared.answer.BookRefusal.{BookRefusal}
use Rattle.windows.specs.Kinds.{spans}
use Rattle.rules.specs.Pointwise.{rule_of}
use Rattle.pairs.specs.Pairs.{differ_rule, same_rule, pair_asks}
use Rattle.products.specs.Products.{product_rule, product_asks}
use Rattle.sums.specs.Questions.{sum_asks}
use Rattle.sums.specs.Meaning.{sum_meaning, posted_meaning}
use Rattle.books.specs.declared.post.DayPost.{DayPost}
use Rattle.books.specs.declared.post.DayPost.TheVariants as post
use Rattle.books.specs.declared.day.DayRule.{DayRule}
use Rattle.books.specs.declared.day.DayRule.TheVariants as day

-- what a rule of the book is
abbrev pub day_rule : DayRule → Rule
day_rule (day.Sum s) = sum_meaning s
day_rule (day.Product x) = rule_of (product_rule x.p x.q x.r)
day_rule (day.Differ x) = rule_of (differ_rule spans x.p x.q)
day_rule (day.Same x) = rule_of (same_rule x.p x.q)

-- what a posted rule means
abbrev pub day_meaning : DayPost → Rule
day_meaning (post.SumEquals s) = posted_meaning s true
day_meaning (post.SumAtMost s) = posted_meaning s false
day_meaning (post.Product p q r) = rule_of (product_rule p q r)
day_meaning (post.Differ p q) = rule_of (differ_rule spans p q)
day_meaning (post.Same p q) = rule_of (same_rule p q)

-- what a posted rule is refused for on n windows
abbrev pub day_asks : DayPost → ℕ → Option BookRefusal
day_asks (post.SumEquals s) n = sum_asks s n
day_asks (post.SumAtMost s) n = sum_asks s n
day_asks (post.Product p q r) n = product_asks p q r n
day_asks (post.Differ p q) n = pair_asks p q n
day_asks (post.Same p q) n = pair_asks p q n
