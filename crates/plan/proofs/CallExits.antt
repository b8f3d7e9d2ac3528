-- Where a call returns: its equation, from what the questions answered.
use Rattle.std.proofs.Common.{◌≡◌, ℕ, ◌<◌, Bool, true, false, cond, ltb, List, [], ◌∷◌, length, set, ℤ, Some, None, Ok, Err, Option, sym, refl, ap, ◌∙◌, subst, ⊎_elim, arith, MatchOption}
use Rattle.std.proofs.lemmas.List.{get_or_past}
use Rattle.std.proofs.lemmas.Bool.{cond-true, cond-false, lt-ltb, le-ltb, ltb-true, cases_lt}
use Rattle.std.specs.Option.{ok_or}
use Rattle.windows.specs.Sets.{same_set, meet}
use Rattle.rulebook.specs.Tables.{Table, window, all_filled}
use Rattle.rulebook.specs.Rules.{Rule}
use Rattle.rulebook.specs.Answers.{reads_at}
use Rattle.policies.specs.Waiting.{puts}
use Rattle.plan.specs.States.{State, Copy, state, at, failed}
use Rattle.plan.specs.Settling.{enough, run, settling, Run, Runs, is_impossible}
use Rattle.plan.specs.Calls.{Cut, cut_to, cutting}
use Rattle.plan.specs.Refusals.{refused, or_else, window_refusal, Call, unless, settle_call, cut_call}
use Rattle.plan.specs.declared.answer.Verdict.{Verdict}
use Rattle.plan.specs.declared.answer.Verdict.TheVariants as verdict
use Rattle.plan.specs.declared.answer.Cutting.{Cutting}
use Rattle.plan.specs.declared.answer.Cutting.TheVariants.{Changed, Unchanged, Impossible}
use Rattle.plan.specs.declared.answer.PlanRefusal.{PlanRefusal}
use Rattle.plan.specs.declared.answer.PlanRefusal.TheVariants as refusal
use Rattle.plan.proofs.BoardLaws.{filled_at}

-- ---- questions
-- the first question was answered no
pub asked_first : (board next : Option PlanRefusal) (f : PlanRefusal) → Some f ≡ board → or_else board next ≡ Some f
asked_first board next f e = ap (λ x. or_else x next) (sym e)

-- a board that is not refused leaves the next question
pub asked_next : (board next o : Option PlanRefusal) → None ≡ board → next ≡ o → or_else board next ≡ o
asked_next board next o e q = ap (λ x. or_else x next) (sym e) ∙ q

-- no question was answered no
pub none_asked : (board next : Option PlanRefusal) → or_else board next ≡ None → (board ≡ None) × (next ≡ None)
none_asked (Some f) next e = cc
none_asked None next e = (refl, e)

-- a value, or else this refusal
pub some_or : {A : Type 0} (o : Option A) (f : PlanRefusal) (x : A) → Ok x ≡ ok_or o f → o ≡ Some x
some_or None f x e = cc
some_or (Some y) f x e = cc

pub none_or : {A : Type 0} (o : Option A) (f g : PlanRefusal) → Err g ≡ ok_or o f → (o ≡ None) × (g ≡ f)
none_or None f g e = (refl, cc)
none_or (Some y) f g e = cc

-- the window at j, or else the refusal that there is none
module _ {W : Type 0} (numbers : W → List ℤ) (T : Table) (j : ℕ) where
  pub window_there : (o : Option W) (w : W) → MatchOption o (window T j ≡ []) (λ x. numbers x ≡ window T j) → Ok w ≡ ok_or o refusal.Window → numbers w ≡ window T j
  window_there None w h e = cc
  window_there (Some x) w h e = let q : w ≡ x = cc in ap numbers q ∙ h

  pub window_gone : (o : Option W) (g : PlanRefusal) → MatchOption o (window T j ≡ []) (λ x. numbers x ≡ window T j) → Err g ≡ ok_or o refusal.Window → (window T j ≡ []) × (g ≡ refusal.Window)
  window_gone None g h e = (h, cc)
  window_gone (Some x) g h e = cc

-- ---- calls
pub call_refused : {A : Type 0} (o : Option PlanRefusal) (f : PlanRefusal) (s : State) (c : Call A) → o ≡ Some f → unless o s c ≡ record { answer = Err f; after = s }
call_refused o f s c e = ap (λ x. unless x s c) e

pub call_done : {A : Type 0} (o : Option PlanRefusal) (s : State) (c d : Call A) → o ≡ None → c ≡ d → unless o s c ≡ d
call_done o s c d e q = ap (λ x. unless x s c) e ∙ q

-- ---- settling
module _ (choice : List ℕ → ℕ) (long : ℕ) where
  settle_done : (s : State) (v : Verdict) (t : State) → refused long s ≡ None → settling choice s ≡ record { verdict = v; after = t } → settle_call choice long s ≡ record { answer = Ok v; after = t }
  settle_done s v t e q = call_done (refused long s) s (record { answer = Ok (settling choice s).verdict; after = (settling choice s).after }) (record { answer = Ok v; after = t }) e (ap {B = Call Verdict} (λ (r : Run). record { answer = Ok r.verdict; after = r.after }) q)

  pub settle_impossible : (s : State) → refused long s ≡ None → s.impossible ≡ true → settle_call choice long s ≡ record { answer = Ok (verdict.Impossible 0 64 64); after = s }
  settle_impossible s e i = settle_done s (verdict.Impossible 0 64 64) s e (ap {B = Run} (λ b. elim b [ true ↦ record { verdict = verdict.Impossible 0 64 64; after = s } | false ↦ run choice (enough s) 0 s ]) i)

  pub settle_ran : (rules : List Rule) (w : List ℕ) (b : Bool) (T : Table) (n : ℕ) (cs : List Copy) (h : ℕ) (v : Verdict) (x : List ℕ) (b' : Bool) (U : Table) → refused long (state rules w b T n cs h) ≡ None → b ≡ false → Runs choice rules w T v x U → b' ≡ is_impossible v → settle_call choice long (state rules w b T n cs h) ≡ record { answer = Ok v; after = state rules x b' U n cs h }
  settle_ran rules w b T n cs h v x b' U e i runs q = settle_done (state rules w b T n cs h) v (state rules x b' U n cs h) e (subst (λ a. settling choice (state rules w a T n cs h) ≡ record { verdict = v; after = state rules x b' U n cs h }) (sym i) (runs n cs h ∙ ap {B = Run} (λ a. record { verdict = v; after = state rules x a U n cs h }) (sym q)))

-- ---- cutting
pub in_table : (j : ℕ) (T : Table) → j < length T → window_refusal j T ≡ None
in_table j T l = cond-true (ltb j (length T)) None (Some refusal.Window) (lt-ltb j (length T) l)

pub in_table_from : (j : ℕ) (T : Table) → window_refusal j T ≡ None → j < length T
in_table_from j T = go (ltb j (length T)) refl
  where
    go : (b : Bool) → ltb j (length T) ≡ b → cond b None (Some refusal.Window) ≡ None → j < length T
    go true e q = ltb-true j (length T) e
    go false e q = cc

-- a window with a number is in the table, and of a table that passed there is no other
pub there_window : (T : Table) (j : ℕ) (s : List ℤ) → s ≡ window T j → 0 < length s → j < length T
there_window T j s e l = ⊎_elim (λ b. b) (λ b. let q = ap length (e ∙ get_or_past T j [] b) in absurd (omega arith)) (cases_lt j (length T))

pub no_window : (T : Table) (j : ℕ) → all_filled T ≡ true → window T j ≡ [] → window_refusal j T ≡ Some refusal.Window
no_window T j f e = ⊎_elim (λ b. absurd (filled_at T j f b e)) (λ b. cond-false (ltb j (length T)) None (Some refusal.Window) (le-ltb j (length T) b)) (cases_lt j (length T))

module _ (j : ℕ) (g : List ℤ) (long : ℕ) (s : State) (e : refused long s ≡ None) (l : j < length s.table) where
  -- by its way: m is what the two windows share
  by_way : (m : List ℤ) (x : Call Cutting) → meet (window s.table j) g ≡ m → ◌≡◌ {A = Call Cutting} (record { answer = Ok (cut_to j s m).answer; after = (cut_to j s m).after }) x → cut_call j g long s ≡ x
  by_way m x q r = call_done (or_else (refused long s) (window_refusal j s.table)) s (record { answer = Ok (cutting j g s).answer; after = (cutting j g s).after }) x (asked_next (refused long s) (window_refusal j s.table) None (sym e) (in_table j s.table l)) (ap {B = Call Cutting} (λ (k : List ℤ). record { answer = Ok (cut_to j s k).answer; after = (cut_to j s k).after }) q ∙ r)

  pub cut_impossible : meet (window s.table j) g ≡ [] → cut_call j g long s ≡ record { answer = Ok Impossible; after = failed s s.waiting }
  cut_impossible q = by_way [] (record { answer = Ok Impossible; after = failed s s.waiting }) q refl

  abbrev way : List ℤ → Bool → Call Cutting
  way m b = let c : Cut = cond b (record { answer = Unchanged; after = s }) (record { answer = Changed; after = at s (set s.table j m) (puts (reads_at s.rules j) (length s.rules) s.waiting) }) in record { answer = Ok c.answer; after = c.after }

  pub cut_unchanged : (m : List ℤ) → meet (window s.table j) g ≡ m → 0 < length m → same_set (window s.table j) m ≡ true → cut_call j g long s ≡ record { answer = Ok Unchanged; after = s }
  cut_unchanged [] q some same = absurd (omega arith)
  cut_unchanged (v ∷ m) q some same = by_way (v ∷ m) (record { answer = Ok Unchanged; after = s }) q (ap (way (v ∷ m)) same)

  pub cut_changed : (m : List ℤ) (T : Table) (w : List ℕ) → meet (window s.table j) g ≡ m → 0 < length m → same_set (window s.table j) m ≡ false → T ≡ set s.table j m → w ≡ puts (reads_at s.rules j) (length s.rules) s.waiting → cut_call j g long s ≡ record { answer = Ok Changed; after = at s T w }
  cut_changed [] T w q some same t x = absurd (omega arith)
  cut_changed (v ∷ m) T w q some same t x = by_way (v ∷ m) (record { answer = Ok Changed; after = at s T w }) q (ap (way (v ∷ m)) same ∙ ap {B = Call Cutting} (λ (U : Table). record { answer = Ok Changed; after = at s U (puts (reads_at s.rules j) (length s.rules) s.waiting) }) (sym t) ∙ ap {B = Call Cutting} (λ (u : List ℕ). record { answer = Ok Changed; after = at s T u }) (sym x))
