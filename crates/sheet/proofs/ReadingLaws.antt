-- One reading after the other.
use Rattle.std.proofs.Common.{◌≡◌, ℕ, zero, suc, ◌-◌, ◌<◌, true, false, is_none, List, Option, Some, None, Ok, Err, Result, refl, ap, ◌∙◌, arith}
use Rattle.sheet.specs.declared.fault.Fault.{Fault}
use Rattle.sheet.specs.declared.lent.Lent.{Lent}
use Rattle.sheet.specs.Reading.{LendsOn, Sheet, reading, readings, next}

-- what one call lends on and then another, both lend on
pub lends_on : (a b c : Lent) → LendsOn a b → LendsOn b c → LendsOn a c
lends_on a b c p q = (q.0 ∙ p.0, q.1 ∙ p.1, q.2 ∙ p.2)

-- one reading more
step_on : (n : ℕ) (bs : List ℕ) (s : Sheet) (a : Result (Option ℕ) Fault) → 0 < n → (reading bs s).answer ≡ a → readings n bs s ≡ next (reading bs s) a (readings (n - 1) bs (reading bs s).after)
unfolding readings
step_on zero bs s a some e = absurd (omega arith)
step_on (suc n) bs s a some e =
    let back : n ≡ suc n - 1 = omega arith in
    ap (λ x. next (reading bs s) x (readings n bs (reading bs s).after)) e ∙ ap (λ m. next (reading bs s) a (readings m bs (reading bs s).after)) back

pub on_end : (n : ℕ) (bs : List ℕ) (s : Sheet) (o : Option ℕ) → 0 < n → (reading bs s).answer ≡ Ok o → is_none o ≡ true → readings n bs s ≡ reading bs s
on_end n bs s None some e t = step_on n bs s (Ok None) some e
on_end n bs s (Some k) some e t = let z : ◌≡◌ {A = ℕ} 0 1 = cc in absurd (omega arith)

pub on_err : (n : ℕ) (bs : List ℕ) (s : Sheet) (f : Fault) → 0 < n → (reading bs s).answer ≡ Err f → readings n bs s ≡ reading bs s
on_err n bs s f some e = step_on n bs s (Err f) some e

pub on_more : (n : ℕ) (bs : List ℕ) (s : Sheet) (o : Option ℕ) → 0 < n → (reading bs s).answer ≡ Ok o → is_none o ≡ false → readings n bs s ≡ readings (n - 1) bs (reading bs s).after
on_more n bs s (Some k) some e t = step_on n bs s (Ok (Some k)) some e
on_more n bs s None some e t = let z : ◌≡◌ {A = ℕ} 0 1 = cc in absurd (omega arith)

pub on_none : (bs : List ℕ) (s : Sheet) → readings 0 bs s ≡ record { answer = Ok None; after = s }
unfolding readings
on_none bs s = refl
