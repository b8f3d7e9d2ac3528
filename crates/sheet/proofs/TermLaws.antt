-- Terms of five bytes, one after the other.
use Rattle.std.proofs.Common.{◌≡◌, ℕ, zero, suc, ◌+◌, ◌-◌, ◌*◌, ◌/◌, ◌<◌, ◌≤◌, cond, leb, List, [], ◌∷◌, length, get_or, take, drop, set, ℤ, Some, None, Option, sym, refl, ap, ◌∙◌, add-one, drop-drop, arith, w32, SFits, to_z, of_z}
use Rattle.std.proofs.lemmas.Int.{to_z-of_z}
use Rattle.std.proofs.lemmas.Bool.{cond-true, le-leb}
use Rattle.std.proofs.lemmas.Slice.{between_to_end}
use Rattle.std.specs.Simd.{first_chunks}
use Rattle.sums.specs.declared.posted.Term.{Term}
use Rattle.sums.specs.declared.posted.PostedSum.{PostedSum}
use Rattle.records.specs.Bytes.{int32}
use Rattle.sheet.specs.Items.{terms, placed, posted_sum}

-- what a slice pattern binds behind n bytes is all that follows them
pub from_is : (s : List ℕ) (n : ℕ) → take (length s - n) (drop n s) ≡ drop n s
from_is s n = between_to_end s n (length s) (omega arith)

-- the first term of at least five bytes
abbrev pub first : List ℕ → Term
first s = record { window = get_or s 0 0; weight = int32 s 1 }

pub terms_step : (s : List ℕ) → 5 ≤ length s → terms s ≡ first s ∷ terms (drop 5 s)
terms_step [] h = absurd (omega arith)
terms_step (a ∷ []) h = absurd (omega arith)
terms_step (a ∷ b ∷ []) h = absurd (omega arith)
terms_step (a ∷ b ∷ c ∷ []) h = absurd (omega arith)
terms_step (a ∷ b ∷ c ∷ d ∷ []) h = absurd (omega arith)
terms_step (a ∷ b ∷ c ∷ d ∷ e ∷ s) h = refl

pub terms_short : (s : List ℕ) → length s < 5 → terms s ≡ []
terms_short [] h = refl
terms_short (a ∷ []) h = refl
terms_short (a ∷ b ∷ []) h = refl
terms_short (a ∷ b ∷ c ∷ []) h = refl
terms_short (a ∷ b ∷ c ∷ d ∷ []) h = refl
terms_short (a ∷ b ∷ c ∷ d ∷ e ∷ s) h = absurd (omega arith)

pub terms_count : (s : List ℕ) → length (terms s) ≡ length s / 5
terms_count [] = refl
terms_count (a ∷ []) = refl
terms_count (a ∷ b ∷ []) = refl
terms_count (a ∷ b ∷ c ∷ []) = refl
terms_count (a ∷ b ∷ c ∷ d ∷ []) = refl
terms_count (a ∷ b ∷ c ∷ d ∷ e ∷ s) = let r = terms_count s in omega arith

pub chunk_at : (k n : ℕ) (s : List ℕ) → n < k → get_or (first_chunks 5 k s) n [] ≡ take 5 (drop (n * 5) s)
chunk_at zero n s lt = absurd (omega arith)
chunk_at (suc k) zero s lt = refl
chunk_at (suc k) (suc n) s lt =
    let e : 5 + n * 5 ≡ suc n * 5 = omega arith in
    chunk_at k n (drop 5 s) (omega arith) ∙ ap (take 5) (drop-drop (n * 5) 5 s ∙ ap (λ m. drop m s) e)

pub first_take : (s : List ℕ) → 5 ≤ length s → first (take 5 s) ≡ first s
first_take [] h = absurd (omega arith)
first_take (a ∷ []) h = absurd (omega arith)
first_take (a ∷ b ∷ []) h = absurd (omega arith)
first_take (a ∷ b ∷ c ∷ []) h = absurd (omega arith)
first_take (a ∷ b ∷ c ∷ d ∷ []) h = absurd (omega arith)
first_take (a ∷ b ∷ c ∷ d ∷ e ∷ s) h = refl

-- one turn of the loop: the first of what is left is placed
pub placed_more : (out new : List Term) (n : ℕ) (s : List ℕ) (all : List Term) → 5 ≤ length (drop (n * 5) s) → new ≡ set out n (first (drop (n * 5) s)) → placed out n (terms (drop (n * 5) s)) ≡ all → placed new (n + 1) (terms (drop ((n + 1) * 5) s)) ≡ all
placed_more out new n s all long f h =
    let r = drop (n * 5) s in
    let e : (n + 1) * 5 ≡ n * 5 + 5 = omega arith in
    ap (λ l. placed l (n + 1) (terms (drop ((n + 1) * 5) s))) f
    ∙ ap (λ l. placed (set out n (first r)) (n + 1) (terms l)) (ap (λ m. drop m s) e ∙ sym (drop-drop 5 (n * 5) s))
    ∙ ap (λ m. placed (set out n (first r)) m (terms (drop 5 r))) (add-one n)
    ∙ ap (placed out n) (sym (terms_step r long))
    ∙ h

-- the term that the code makes
pub term_is : (s : List ℕ) (z : ℤ) (w : ℕ) → SFits w32 z → z ≡ int32 s 1 → w ≡ get_or s 0 0 → ◌≡◌ {A = Term} (record { window = w; weight = to_z w32 (of_z w32 z) }) (first s)
term_is s z w fits e f =
    let g : to_z w32 (of_z w32 z) ≡ int32 s 1 = to_z-of_z w32 z fits ∙ e in
    λ i. record { window = f i; weight = g i }

-- the sum that the code makes
pub sum_is : (p : List ℕ) (b : ℤ) (ts : List Term) (n : ℕ) → 4 ≤ length p → b ≡ int32 p 0 → ts ≡ (posted_sum p).terms → n ≡ (posted_sum p).count → ◌≡◌ {A = Option PostedSum} (Some (record { bound = b; terms = ts; count = n })) (cond (leb 4 (length p)) (Some (posted_sum p)) None)
sum_is p b ts n h e f g =
    let same : ◌≡◌ {A = PostedSum} (record { bound = b; terms = ts; count = n }) (posted_sum p) = λ i. record { bound = e i; terms = f i; count = g i } in
    ap Some same ∙ sym (cond-true (leb 4 (length p)) (Some (posted_sum p)) None (le-leb 4 (length p) h))
