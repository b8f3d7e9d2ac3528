-- The laws of the rules of the day book.
use Rattle.std.specs.Prelude.{◌≡◌, ℕ, ◌<◌, true, false, None}
use Rattle.windows.specs.Kinds.{Of, spans}
use Rattle.windows.specs.SpanLaws.{spans_proper}
use Rattle.rulebook.specs.Rules.{Lawful}
use Rattle.pairs.proofs.PairLaws.{same_lawful, differ_lawful, pair_within, pair_near}
use Rattle.products.proofs.ProductLaws.{product_lawful, product_near, product_within}
use Rattle.sums.specs.Questions.{given}
use Rattle.sums.proofs.QuestionLaws.{accepted}
use Rattle.sums.proofs.SumLaws.{sum_lawful, meaning_lawful, meaning_near, asks_within}
use Rattle.books.specs.Day.{day_rule, day_meaning, day_asks}
use Rattle.books.specs.declared.post.DayPost.{DayPost}
use Rattle.books.specs.declared.post.DayPost.TheVariants as post
use Rattle.books.specs.declared.day.DayRule.{DayRule}
use Rattle.books.specs.declared.day.DayRule.TheVariants as day

pub day_lawful : (r : DayRule) → Lawful (Of spans) (day_rule r)
day_lawful (day.Sum s) = meaning_lawful s
day_lawful (day.Product x) = product_lawful x.p x.q x.r
day_lawful (day.Differ x) = differ_lawful spans spans_proper x.p x.q
day_lawful (day.Same x) = same_lawful spans spans_proper x.p x.q

pub day_near : (r : DayRule) (j : ℕ) → (day_rule r).reads j ≡ true → j < 64
day_near (day.Sum s) j h = meaning_near s j h
day_near (day.Product x) j h = product_near x.p x.q x.r j (x.near, x.different) h
day_near (day.Differ x) j h = pair_near x.p x.q j x.apart h
day_near (day.Same x) j h = pair_near x.p x.q j x.apart h

pub day_within : (p : DayPost) (n j : ℕ) → day_asks p n ≡ None → (day_meaning p).reads j ≡ true → j < n
day_within (post.SumEquals s) n j e h = asks_within s true n j e h
day_within (post.SumAtMost s) n j e h = asks_within s false n j e h
day_within (post.Product p q r) n j e h = product_within p q r n j e h
day_within (post.Differ p q) n j e h = pair_within p q n j e h
day_within (post.Same p q) n j e h = pair_within p q n j e h

-- an accepted posting is lawful
pub day_post_lawful : (p : DayPost) (n : ℕ) → day_asks p n ≡ None → Lawful (Of spans) (day_meaning p)
day_post_lawful (post.SumEquals s) n e = sum_lawful (given s) s.bound true (accepted s n e).different
day_post_lawful (post.SumAtMost s) n e = sum_lawful (given s) s.bound false (accepted s n e).different
day_post_lawful (post.Product p q r) n e = product_lawful p q r
day_post_lawful (post.Differ p q) n e = differ_lawful spans spans_proper p q
day_post_lawful (post.Same p q) n e = same_lawful spans spans_proper p q
