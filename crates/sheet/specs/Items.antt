-- What each record says.
use Rattle.std.specs.Prelude.{ℕ, suc, cond, List, [], ◌∷◌, length, drop, replicate, pos, Some, None, Option, ◌==◌, nat_le, slice_index, slice_set}
use Rattle.sums.specs.declared.posted.Term.{Term}
use Rattle.sums.specs.declared.posted.PostedSum.{PostedSum}
use Rattle.books.specs.declared.post.DayPost.TheVariants as post
use Rattle.records.specs.Bytes.{int32}
use Rattle.records.specs.Records.{Rec, kind, span, sum_equals, sum_at_most, differ, same, note}
use Rattle.sheet.specs.declared.item.Item.{Item}
use Rattle.sheet.specs.declared.item.Item.TheVariants as item

-- terms of five bytes each: a window and a signed weight
abbrev pub terms : List ℕ → List Term
terms [] = []
terms (w ∷ []) = []
terms (w ∷ a ∷ []) = []
terms (w ∷ a ∷ b ∷ []) = []
terms (w ∷ a ∷ b ∷ c ∷ []) = []
terms (w ∷ a ∷ b ∷ c ∷ d ∷ rest) = record { window = w; weight = int32 (a ∷ b ∷ c ∷ d ∷ []) 0 } ∷ terms rest

-- the terms in their places from number n on; those past the last place are left out
abbrev pub placed : List Term → ℕ → List Term → List Term
placed out n [] = out
placed out n (t ∷ ts) = placed (slice_set out n t) (suc n) ts

-- a sum: a bound, and then any count of terms, of which the first eight are kept
abbrev pub posted_sum : List ℕ → PostedSum
posted_sum p = record { bound = int32 p 0; terms = placed (replicate 8 (record { window = 0; weight = pos 0 })) 0 (terms (drop 4 p)); count = length (terms (drop 4 p)) }

-- what a record says; nothing where its payload has the wrong length
abbrev pub item_of : Rec → Option Item
item_of (kind p) = cond (length p == 1) (Some (item.Kind (slice_index p 0))) None
item_of (span p) = cond (length p == 8) (Some (item.Window (record { lo = int32 p 0; hi = int32 p 4 }))) None
item_of (sum_equals p) = cond (nat_le 4 (length p)) (Some (item.Rule (post.SumEquals (posted_sum p)))) None
item_of (sum_at_most p) = cond (nat_le 4 (length p)) (Some (item.Rule (post.SumAtMost (posted_sum p)))) None
item_of (differ p) = cond (length p == 2) (Some (item.Rule (post.Differ (slice_index p 0) (slice_index p 1)))) None
item_of (same p) = cond (length p == 2) (Some (item.Rule (post.Same (slice_index p 0) (slice_index p 1)))) None
item_of (note p) = Some item.Note
