-- Rows and rules as a sheet takes them.
use Rattle.std.proofs.Common.{◌≡◌, ℕ, Bool, true, false, List, [], length, ℤ, pos, negsuc, ◌≤ℤ◌, Some, None, Ok, Err, Option, sym, refl, ap, ◌∙◌, arith}
use Rattle.std.proofs.lemmas.Int.{ints}
use Rattle.windows.specs.Sets.{range}
use Rattle.windows.specs.Rows.{Stands, span_stands, span_numbers}
use Rattle.windows.specs.declared.span.SpanRow.{SpanRow}
use Rattle.windows.specs.SetLaws.{tests, range_some}
use Rattle.windows.proofs.KindLaws.{not_none}
use Rattle.windows.specs.SpanLaws.{row_is, row_none}
use Rattle.rulebook.specs.Rules.{Rule}
use Rattle.rulebook.specs.Answers.{Posted, posted}
use Rattle.rulebook.specs.declared.answer.BookRefusal.{BookRefusal}

-- a row that stands for no numbers fails its check
pub row_fails : (r : SpanRow) → span_numbers r ≡ [] → span_stands r ≡ false
row_fails r e = go (span_stands r) refl
  where
    go : (t : Bool) → span_stands r ≡ t → span_stands r ≡ false
    go true q =
        let a : r.lo ≤ℤ r.hi = grind (arith, ints, tests) in
        let b : negsuc 999999 ≤ℤ r.lo = grind (arith, ints, tests) in
        let c : r.hi ≤ℤ pos 1000000 = grind (arith, ints, tests) in
        absurd (not_none (range r.lo r.hi) (range_some r.lo r.hi a) (sym (row_is r a b c) ∙ e))
    go false q = q

-- one that stands for the numbers of a span passes it
pub row_passes : (r : SpanRow) (lo hi : ℤ) → Stands lo hi → range lo hi ≡ span_numbers r → span_stands r ≡ true
row_passes r lo hi s e = go (span_stands r) refl
  where
    go : (t : Bool) → span_stands r ≡ t → span_stands r ≡ true
    go true q = q
    go false q = absurd (not_none (range lo hi) (range_some lo hi s.0) (e ∙ row_none r q))

-- a refused posting leaves the rules
pub refused_rules : (rules after : List Rule) (r : Rule) (o : Option BookRefusal) (f : BookRefusal) → posted rules r o ≡ record { answer = Err f; after = after } → after ≡ rules
refused_rules rules after r None f e = let q : Ok (length rules) ≡ Err f = ap (λ (x : Posted). x.answer) e in let z : ◌≡◌ {A = ℕ} 0 1 = cc in absurd (omega arith)
refused_rules rules after r (Some g) f e = sym (ap (λ (x : Posted). x.after) e)
