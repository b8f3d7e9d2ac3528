-- Settling rows: a plan that is made is not refused when it is settled.
use Rattle.std.proofs.Common.{◌≡◌, ℕ, zero, suc, ℤ, [], map, ◌*◌, ◌<◌, ◌≤◌, min, Bool, true, false, cond, eqb, leb, ◌⊎◌, List, ◌++◌, length, take, drop, Some, None, Ok, Err, Option, Result, sym, refl, ap, ◌∙◌, subst, ap₂, inl, inr, append-nil, arith, take-append-drop}
use Rattle.std.proofs.lemmas.List.{take_all, take_at, drop_all, drop_at}
use Rattle.std.proofs.lemmas.Bool.{eq-eqb, leb-true, cases_lt}
use Rattle.rulebook.specs.Tables.{Table}
use Rattle.rulebook.specs.Rules.{Rule}
use Rattle.rulebook.specs.Answers.{reach_of}
use Rattle.policies.specs.Waiting.{first}
use Rattle.bounded.specs.Lists.{items}
use Rattle.plan.specs.States.{State, state}
use Rattle.plan.specs.Settling.{settling}
use Rattle.plan.specs.Calls.{making}
use Rattle.plan.specs.Refusals.{is_table, board_refusal, refused, make_refused, Made, made_unless, make_call, Call, unless, settle_call}
use Rattle.plan.specs.declared.answer.PlanRefusal.{PlanRefusal}
use Rattle.plan.specs.declared.answer.PlanRefusal.TheVariants as plan
use Rattle.plan.specs.declared.answer.Verdict.{Verdict}
use Rattle.plan.specs.Views.{copies, view, stored, Untouched}
use Rattle.plan.specs.declared.status.Slot.{Slot}
use Rattle.plan.specs.declared.status.Status.{Status}
use Rattle.settle.specs.Settled.{Ran, ran_unless, ran, given_to}

none_some : {X : Type 0} (f : PlanRefusal) → ◌≡◌ {A = Option PlanRefusal} (Some f) None → X
none_some f e = let z : ◌≡◌ {A = ℕ} 0 1 = cc in absurd (omega arith)

-- a board that passed with one wish about its length passes with another that holds
passes : (T : Table) (long : ℕ) (wanted other : Bool) → board_refusal T long wanted ≡ None → other ≡ true → (board_refusal T long other ≡ None) × (16 * length T ≤ long)
passes T long wanted other = go (is_table T) (leb (16 * length T) long) refl wanted
  where
    go : (t l : Bool) → leb (16 * length T) long ≡ l → (w : Bool) → cond t (cond l (cond w None (Some plan.Length)) (Some plan.Store)) (Some plan.Windows) ≡ None → other ≡ true → (cond t (cond l (cond other None (Some plan.Length)) (Some plan.Store)) (Some plan.Windows) ≡ None) × (16 * length T ≤ long)
    go true true e w h o = (rw o refl, leb-true (16 * length T) long e)
    go true false e w h o = none_some plan.Store h
    go false l e w h o = none_some plan.Windows h

-- an accepted making leaves a plan whose board is not refused
pub settles : (rules : List Rule) (T : Table) (long : ℕ) → make_refused rules T long ≡ None → refused long (making rules T) ≡ None
settles rules T long e = (passes T long (leb (reach_of rules 64) (length T)) (eqb (length T) (length T)) e (eq-eqb (length T) (length T) refl)).0

-- and its store holds 16 tables
pub stores : (rules : List Rule) (T : Table) (long : ℕ) → make_refused rules T long ≡ None → 16 * length T ≤ long
stores rules T long e = (passes T long (leb (reach_of rules 64) (length T)) true e refl).1

-- what a making was refused for
pub made_refusal : (rules : List Rule) (w : List ℕ) (T : Table) (long : ℕ) (o : Option PlanRefusal) (s : State) → make_call rules w T long ≡ record { refusal = o; after = s } → make_refused rules T long ≡ o
made_refusal rules w T long o s = go (make_refused rules T long)
  where
    go : (q : Option PlanRefusal) → made_unless q rules w T ≡ record { refusal = o; after = s } → q ≡ o
    go (Some f) e = ap (λ (m : Made). m.refusal) e
    go None e = ap (λ (m : Made). m.refusal) e

pub made_state : (rules : List Rule) (w : List ℕ) (T : Table) (q o : Option PlanRefusal) (s : State) → q ≡ None → made_unless q rules w T ≡ record { refusal = o; after = s } → making rules T ≡ s
made_state rules w T (Some f) o s n e = none_some f n
made_state rules w T None o s n e = ap (λ (m : Made). m.after) e

-- a refused making
pub ran_refused : (rules : List Rule) (w : List ℕ) (T : Table) (long : ℕ) (o : Option PlanRefusal) (f : PlanRefusal) (s : State) → make_call rules w T long ≡ record { refusal = o; after = s } → o ≡ Some f → ran rules T long ≡ record { answer = Err f; after = T }
ran_refused rules w T long o f s e q = ap (λ p. ran_unless p rules T) (made_refusal rules w T long o s e ∙ q)

-- an accepted making, and then the settling
pub ran_settled : (rules : List Rule) (w : List ℕ) (T : Table) (long : ℕ) (o : Option PlanRefusal) (s t : State) (r : Result Verdict PlanRefusal) → make_call rules w T long ≡ record { refusal = o; after = s } → o ≡ None → settle_call first long s ≡ record { answer = r; after = t } → ran rules T long ≡ record { answer = r; after = t.table }
ran_settled rules w T long o s t r e n f =
    let p : make_refused rules T long ≡ None = made_refusal rules w T long o s e ∙ n in
    let q : making rules T ≡ s = made_state rules w T (make_refused rules T long) o s p e in
    let run : Call Verdict = record { answer = Ok (settling first (making rules T)).verdict; after = (settling first (making rules T)).after } in
    let g : settle_call first long (making rules T) ≡ record { answer = r; after = t } = subst (λ (x : State). settle_call first long x ≡ record { answer = r; after = t }) (sym q) f in
    let h : settle_call first long (making rules T) ≡ run = ap (λ (x : Option PlanRefusal). unless x (making rules T) run) (settles rules T long p) in
    ap (λ x. ran_unless x rules T) p ∙ ap {B = Ran} (λ (c : Call Verdict). record { answer = c.answer; after = c.after.table }) (sym h ∙ g)

-- ---- over rows and a store
-- an accepted making runs to a verdict
pub given_stored : {Row : Type 0} (rules : List Rule) (T U : Table) (long : ℕ) (r : Result Verdict PlanRefusal) (store rows : List Row) → None ≡ make_refused rules T long → ran rules T long ≡ record { answer = r; after = U } → given_to r store rows ≡ stored store 0 rows
given_stored rules T U long (Ok v) store rows n e = refl
given_stored rules T U long (Err f) store rows n e = let q : ◌≡◌ {A = Result Verdict PlanRefusal} (Ok (settling first (making rules T)).verdict) (Err f) = ap (λ (x : Ran). x.answer) (ap (λ o. ran_unless o rules T) n ∙ e) in let z : ◌≡◌ {A = ℕ} 0 1 = cc in absurd (omega arith)

-- a plan with no open mark is what it is, whatever its store holds
no_marks : {Row : Type 0} (stands : Row → List ℤ) (slots : List Slot) (n : ℕ) (old new : List Row) (k : ℕ) → copies stands slots n old k ≡ [] → copies stands slots n new k ≡ []
no_marks stands slots n old new zero e = refl
no_marks stands slots n old new (suc k) e = let z : ◌≡◌ {A = ℕ} 0 1 = cc in absurd (omega arith)

pub same_view : {Row : Type 0} (stands : Row → List ℤ) (rules : List Rule) (w : List ℕ) (status : Status) (rows old new : List Row) → (view stands rules w status rows old).marks ≡ [] → view stands rules w status rows new ≡ view stands rules w status rows old
same_view stands rules w status rows old new e =
    ap (λ cs. state rules w status.impossible (map stands rows) status.windows cs status.handed) (no_marks stands (items status.marks) status.windows old new (length (items status.marks)) e ∙ sym e)

-- an accepted making has found a store that holds 16 tables
pub accepted_store : (rules : List Rule) (w : List ℕ) (T : Table) (long : ℕ) (o : Option PlanRefusal) (s : State) → make_call rules w T long ≡ record { refusal = o; after = s } → o ≡ None → 16 * length T ≤ long
accepted_store rules w T long o s e n = stores rules T long (made_refusal rules w T long o s e ∙ n)

-- an accepted making, and then the settling, with other rows in the store
module _ {Row : Type 0} (stands : Row → List ℤ) (rules book : List Rule) (before w : List ℕ) (status : Status) (rows old new : List Row) (o : Option PlanRefusal) (r : Result Verdict PlanRefusal) (t : State) where
  pub settled_kept : make_call rules before (map stands rows) (length old) ≡ record { refusal = o; after = view stands book w status rows old } → o ≡ None → length new ≡ length old → settle_call first (length new) (view stands book w status rows new) ≡ record { answer = r; after = t } → ran rules (map stands rows) (length old) ≡ record { answer = r; after = t.table }
  settled_kept e n l f = ran_settled rules before (map stands rows) (length old) o s t r e n (ap₂ {C = Call Verdict} (λ m x. settle_call first m x) (sym l) (sym same) ∙ f)
    where
      s : State
      s = view stands book w status rows old

      made : make_refused rules (map stands rows) (length old) ≡ None
      made = made_refusal rules before (map stands rows) (length old) o s e ∙ n

      same : view stands book w status rows new ≡ s
      same = same_view stands book w status rows old new (ap (λ x. x.marks) (sym (made_state rules before (map stands rows) _ o s made e)))

-- ---- over the first n rows
-- the first n rows, as many as there are
pub front_is : {X : Type 0} (rows : List X) (n end : ℕ) → end ≡ min n (length rows) → take (end) rows ≡ take n rows
front_is rows n end e = go (cases_lt n (length rows))
  where
    go : (n < length rows) ⊎ (length rows ≤ n) → take (end) rows ≡ take n rows
    go (inl h) = let q : end ≡ n = omega arith in ap (λ k. take k rows) q
    go (inr h) = take_all (end) rows (omega arith) ∙ sym (take_all n rows h)

pub front_new : {X : Type 0} (rows new : List X) (n end : ℕ) → end ≡ min n (length rows) → length new ≡ end → take n (new ++ drop (end) rows) ≡ new
front_new rows new n end e l = go (cases_lt n (length rows))
  where
    go : (n < length rows) ⊎ (length rows ≤ n) → take n (new ++ drop (end) rows) ≡ new
    go (inl h) = take_at new (drop (end) rows) n (omega arith)
    go (inr h) = ap (λ x. take n (new ++ x)) (drop_all (end) rows (omega arith)) ∙ ap (take n) (append-nil new) ∙ take_all n new (omega arith)

pub front_others : {X : Type 0} (rows new : List X) (n end : ℕ) → end ≡ min n (length rows) → length new ≡ end → drop n (new ++ drop (end) rows) ≡ drop n rows
front_others rows new n end e l = go (cases_lt n (length rows))
  where
    go : (n < length rows) ⊎ (length rows ≤ n) → drop n (new ++ drop (end) rows) ≡ drop n rows
    go (inl h) = let q : end ≡ n = omega arith in drop_at new (drop (end) rows) n (omega arith) ∙ ap (λ k. drop k rows) q
    go (inr h) = ap (λ x. drop n (new ++ x)) (drop_all (end) rows (omega arith)) ∙ ap (drop n) (append-nil new) ∙ drop_all n new (omega arith) ∙ sym (drop_all n rows h)

-- rows whose first ones are the very same
pub front_untouched : {A E Row : Type 0} (r : Result A E) (rows new : List Row) (k : ℕ) → Untouched r (take k rows) new → Untouched r rows (new ++ drop k rows)
front_untouched (Ok v) rows new k u = tt
front_untouched (Err f) rows new k u = ap (λ x. x ++ drop k rows) u ∙ take-append-drop k rows
