-- The invariant: what holds of every state that calls lead to.
use Rattle.std.proofs.Common.{◌≡◌, ℕ, ◌<◌, ◌≤◌, Bool, true, false, List, [], ◌∷◌, length, get_or, take, ℤ, sym, refl, ◌∙◌, subst}
use Rattle.std.proofs.lemmas.Bool.{both_ways}
use Rattle.rulebook.specs.Tables.{Table, Placing, Inside, Places, Every}
use Rattle.rulebook.specs.Rules.{Rule, narrowed, emptied, missing, Lawful}
use Rattle.plan.specs.Steady.{Steady, Fits}
use Rattle.policies.specs.Waiting.{holds}
use Rattle.plan.specs.States.{State, Copy}
use Rattle.plan.specs.Asking.{Ask, Held}
use Rattle.plan.proofs.RuleLaws.{calm_all, allowed_all, not_both, narrowed_once}
use Rattle.plan.proofs.TableLaws.{inside_trans}

-- Windows beside what was asked: they lie inside it while the plan is possible, and above all that was asked for.
pub record Sound (sets : List ℤ → Type 0) (asked : Table) (rules : List Rule) (impossible : Bool) (T : Table) : Type 0 where
  pub kinds : Every sets T
  pub long : length T ≡ length asked
  pub inside : impossible ≡ false → Inside T asked
  pub above : (V : Table) → Steady sets asked rules V → (impossible ≡ false) × Inside V T
  pub fits : (p : Placing) → Fits asked rules p → (impossible ≡ false) × Places p T

-- Open marks: each copy is sound for what was asked at its mark, and its rules are the first of those of the next later mark.
abbrev pub Marked : (List ℤ → Type 0) → List Rule → List Held → List Copy → Type 0
Marked sets rules [] [] = Unit {0}
Marked sets rules [] (c ∷ cs) = ⊥
Marked sets rules (h ∷ hs) [] = ⊥
Marked sets rules (h ∷ hs) (c ∷ cs) = (h.number ≡ c.number) × (c.count ≤ length rules) × (take c.count rules ≡ h.standing) × Sound sets h.asked (take c.count rules) c.impossible c.table × Marked sets (take c.count rules) hs cs

pub record Good (sets : List ℤ → Type 0) (a : Ask) (s : State) : Type 0 where
  pub same : s.rules ≡ a.standing
  pub few : length s.rules ≤ 64
  pub lawful : (i : ℕ) → Lawful sets (get_or s.rules i missing)
  pub sound : Sound sets a.asked s.rules s.impossible s.table
  -- a rule that does not wait does not narrow
  pub calm : s.impossible ≡ false → (i : ℕ) → i < length s.rules → holds i s.waiting ≡ false → (get_or s.rules i missing).narrow s.table ≡ narrowed s.table
  pub marks : Marked sets s.rules a.held s.marks

-- one standing rule has narrowed the windows
pub sound_narrowed : (sets : List ℤ → Type 0) (asked : Table) (rules : List Rule) (T U : Table) (i : ℕ) → Lawful sets (get_or rules i missing) → Sound sets asked rules false T → (get_or rules i missing).narrow T ≡ narrowed U → Sound sets asked rules false U
sound_narrowed sets asked rules T U i law sound e =
    record {
      kinds = (law.shrinks T U sound.kinds e).0;
      long = (law.shrinks T U sound.kinds e).1.long ∙ sound.long;
      inside = λ _. inside_trans (law.shrinks T U sound.kinds e).1 (sound.inside refl);
      above = λ V h. (refl, above V h);
      fits = λ p h. (refl, fits p h);
    }
  where
    above : (V : Table) → Steady sets asked rules V → Inside V U
    above V h =
        let (W, f, g) = law.monotone V T V h.kinds sound.kinds (sound.above V h).1 (calm_all rules V h.calm i) in
        subst (λ (X : Table). Inside V X) (narrowed_once (sym f ∙ e)) g

    fits : (p : Placing) → Fits asked rules p → Places p U
    fits p h =
        let (W, f, g) = law.keeps T p sound.kinds (sound.fits p h).1 (allowed_all rules p h.allowed i) in
        subst (λ (X : Table). Places p X) (narrowed_once (sym f ∙ e)) g

-- one standing rule has emptied a window
pub sound_emptied : (sets : List ℤ → Type 0) (asked : Table) (rules : List Rule) (T : Table) (i j : ℕ) → Lawful sets (get_or rules i missing) → Sound sets asked rules false T → (get_or rules i missing).narrow T ≡ emptied j → Sound sets asked rules true T
sound_emptied sets asked rules T i j law sound e =
    record {
      kinds = sound.kinds;
      long = sound.long;
      inside = λ h. absurd (both_ways true h refl);
      above = λ V h. absurd (let (W, f, g) = law.monotone V T V h.kinds sound.kinds (sound.above V h).1 (calm_all rules V h.calm i) in not_both f e);
      fits = λ p h. absurd (let (W, f, g) = law.keeps T p sound.kinds (sound.fits p h).1 (allowed_all rules p h.allowed i) in not_both f e);
    }
