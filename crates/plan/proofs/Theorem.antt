-- The main theorem at each call, from the call's equation.
use Rattle.std.proofs.Common.{◌≡◌, ℕ, ◌+◌, ◌<◌, ◌≤◌, List, [], ◌∷◌, ◌++◌, length, get_or, ℤ, Some, None, Ok, Err, Option, Result, sym, refl, ap, ◌∙◌, subst, arith}
use Rattle.std.proofs.lemmas.List.{length_push, get_or_push}
use Rattle.rulebook.specs.Tables.{Table, Every, Inside}
use Rattle.rulebook.specs.Rules.{Rule, narrowed, Lawful, missing}
use Rattle.rulebook.specs.declared.answer.BookRefusal.{BookRefusal}
use Rattle.policies.specs.Waiting.{Chooses}
use Rattle.plan.specs.Steady.{Steady, Among, SameRules}
use Rattle.plan.specs.States.{State}
use Rattle.plan.specs.Settling.{settling}
use Rattle.plan.specs.Calls.{posting, cutting, marking, keeping, taking_back}
use Rattle.plan.specs.Asking.{Ask, Reached, posted, cut, settled, marked, kept, back, Answered, ask_same, ask_posted, ask_cut, ask_marked, ask_kept, ask_back}
use Rattle.plan.specs.Refusals.{Call, unless, refused, or_else, by_book, window_refusal, mark_refusal, open_refusal, settle_call, post_call, cut_call, mark_call, keep_call, back_call}
use Rattle.plan.specs.Theorem.{Carries, if_ok, Says, SaysAll, WithinSteps, AlikeAnswers, Agrees, ShowsAll}
use Rattle.plan.specs.declared.answer.Verdict.{Verdict}
use Rattle.plan.specs.declared.answer.Verdict.TheVariants.{Settled, Impossible}
use Rattle.plan.specs.declared.answer.Cutting.{Cutting}
use Rattle.plan.specs.declared.answer.Closing.{Closing}
use Rattle.plan.specs.declared.answer.Closing.TheVariants.{Done}
use Rattle.plan.specs.declared.answer.PlanRefusal.{PlanRefusal}
use Rattle.plan.specs.declared.plan.marks.Mark.{Mark}
use Rattle.plan.proofs.ProperSets.{ProperSets}
use Rattle.plan.proofs.TableLaws.{inside_both}
use Rattle.plan.proofs.RuleLaws.{lawful_all}
use Rattle.plan.proofs.SettlingLaws.{settling_ran, step_bound, widest}
use Rattle.plan.proofs.CallLaws.{reached_good, reached_holds}
use Rattle.plan.proofs.CallExits.{none_asked, in_table_from}

-- a book after a posting has room before it, and a lawful last rule
pub posted_room : (sets : List ℤ → Type 0) (r : Rule) (old rules : List Rule) → rules ≡ old ++ (r ∷ []) → length rules ≤ 64 → ((i : ℕ) → i < length rules → Lawful sets (get_or rules i missing)) → (length old < 64) × Lawful sets r
posted_room sets r old rules e few lawful =
    let long : length rules ≡ length old + 1 = ap length e ∙ length_push old r in
    (omega arith, subst (Lawful sets) (ap (λ (rs : List Rule). get_or rs (length old) missing) e ∙ get_or_push old r missing (length old) refl) (lawful (length old) (omega arith)))

module _ (sets : List ℤ → Type 0) (choice : List ℕ → ℕ) (proper : ProperSets sets) (chooses : Chooses choice) where
  -- a refused call
  pub refused_carries : (s : State) → Carries sets choice ask_same s s
  refused_carries s = record { reached = λ a h. h; holds = λ a h. reached_holds sets choice proper chooses a s h }

  -- a call that leads on, where it is not refused
  pub call_carries : {A : Type 0} (f : Ask → Ask) (s : State) (o : Option PlanRefusal) (x : A) (u : State) (r : Result A PlanRefusal) (t : State) → (o ≡ None → (a : Ask) → Reached sets choice a s → Reached sets choice (f a) u) → unless o s (record { answer = Ok x; after = u }) ≡ record { answer = r; after = t } → Carries sets choice (if_ok r f) s t
  call_carries {A} f s o x u r t leads e = subst (λ (c : Call A). Carries sets choice (if_ok c.answer f) s c.after) e (go o leads)
    where
      go : (o : Option PlanRefusal) → (o ≡ None → (a : Ask) → Reached sets choice a s → Reached sets choice (f a) u) → Carries sets choice (if_ok (unless o s (record { answer = Ok x; after = u })).answer f) s (unless o s (record { answer = Ok x; after = u })).after
      go (Some f) l = record { reached = λ a h. h; holds = λ a h. reached_holds sets choice proper chooses a s h }
      go None l = record { reached = l refl; holds = λ a h. reached_holds sets choice proper chooses (f a) u (l refl a h) }

  -- the calls that lead on
  pub cut_carries : (j : ℕ) (g : List ℤ) → sets g → (long : ℕ) (s : State) (r : Result Cutting PlanRefusal) (t : State) → cut_call j g long s ≡ record { answer = r; after = t } → Carries sets choice (if_ok r (ask_cut j g)) s t
  cut_carries j g kind long s r t = call_carries (ask_cut j g) s (or_else (refused long s) (window_refusal j s.table)) (cutting j g s).answer (cutting j g s).after r t (λ o a h. cut j g a s (in_table_from j s.table (none_asked (refused long s) (window_refusal j s.table) o).1) kind h)

  pub mark_carries : (long : ℕ) (s : State) (r : Result Mark PlanRefusal) (t : State) → mark_call long s ≡ record { answer = r; after = t } → Carries sets choice (if_ok r (ask_marked s.handed)) s t
  mark_carries long s r t = call_carries (ask_marked s.handed) s (or_else (refused long s) (mark_refusal s)) (record { number = s.handed }) (marking s) r t (λ _ a h. marked a s h)

  pub keep_carries : (m long : ℕ) (s : State) (r : Result Closing PlanRefusal) (t : State) → keep_call m long s ≡ record { answer = r; after = t } → Carries sets choice (if_ok r (ask_kept m)) s t
  keep_carries m long s r t = call_carries (ask_kept m) s (or_else (refused long s) (open_refusal m s)) Done (keeping m s) r t (λ _ a h. kept m a s h)

  pub back_carries : (m long : ℕ) (s : State) (r : Result Closing PlanRefusal) (t : State) → back_call m long s ≡ record { answer = r; after = t } → Carries sets choice (if_ok r (ask_back m)) s t
  back_carries m long s r t = call_carries (ask_back m) s (or_else (refused long s) (open_refusal m s)) Done (taking_back m s) r t (λ _ a h. back m a s h)

  -- a posting leads on, since the book after it has room for its rules, and each of them is lawful
  pub post_carries : (r : Rule) (o : Option BookRefusal) (long : ℕ) (s : State) (x : Result ℕ PlanRefusal) (t : State) → length t.rules ≤ 64 → ((i : ℕ) → i < length t.rules → Lawful sets (get_or t.rules i missing)) → post_call r o long s ≡ record { answer = x; after = t } → Carries sets choice (if_ok x (ask_posted r)) s t
  post_carries r o long s x t few lawful e = call_carries (ask_posted r) s asked (length s.rules) (posting r s) x t (λ q a h. let room = posted_room sets r s.rules t.rules (after q) few lawful in posted r a s room.0 room.1 h) e
    where
      asked : Option PlanRefusal
      asked = or_else (refused long s) (by_book o)

      after : asked ≡ None → t.rules ≡ s.rules ++ (r ∷ [])
      after q = sym (ap (λ (c : Call ℕ). c.after.rules) (sym (ap (λ p. unless p s (record { answer = Ok (length s.rules); after = posting r s })) q) ∙ e))

  -- what holds of every settling, and of every refusal, holds by the equation
  by_equation : (P : Result Verdict PlanRefusal → State → Type 0) (s : State) (long : ℕ) (r : Result Verdict PlanRefusal) (t : State) → (refused long s ≡ None → P (Ok (settling choice s).verdict) (settling choice s).after) → ((f : PlanRefusal) → P (Err f) s) → settle_call choice long s ≡ record { answer = r; after = t } → P r t
  by_equation P s long r t done not e = subst (λ (c : Call Verdict). P c.answer c.after) e (go (refused long s) done)
    where
      run : Call Verdict
      run = record { answer = Ok (settling choice s).verdict; after = (settling choice s).after }

      go : (o : Option PlanRefusal) → (o ≡ None → P (Ok (settling choice s).verdict) (settling choice s).after) → P (unless o s run).answer (unless o s run).after
      go (Some f) d = not f
      go None d = d refl

  module _ (s : State) (long : ℕ) (r : Result Verdict PlanRefusal) (t : State) (e : settle_call choice long s ≡ record { answer = r; after = t }) where
    pub settle-carries : Carries sets choice ask_same s t
    settle-carries = by_equation (λ _ u. Carries sets choice ask_same s u) s long r t (λ _. record { reached = λ a h. settled a s h; holds = λ a h. reached_holds sets choice proper chooses a (settling choice s).after (settled a s h) }) (λ _. refused_carries s) e

    -- Settled beside the widest table, or Impossible and there is none
    pub settle-says : SaysAll sets choice s r t
    settle-says a h = by_equation (λ x u. Says sets a x u.table) s long r t (λ _. (settling_ran sets choice proper chooses a s (reached_good sets choice proper chooses a s h)).answered) (λ _. tt) e

    -- within its steps
    pub settle-bound : length s.rules ≤ 64 → ((i : ℕ) → i < length s.rules → Lawful sets (get_or s.rules i missing)) → (refused long s ≡ None → Every sets s.table) → WithinSteps s r t
    settle-bound few lawful kinds = by_equation (WithinSteps s) s long r t (λ o. step_bound sets choice proper chooses s (record { few = few; lawful = lawful_all sets s.rules lawful; kinds = kinds o })) (λ _. tt) e

  -- in a possible plan in which no rule waits the windows are the widest
  pub shows_all : (s : State) → ShowsAll sets choice s
  shows_all s a h = record { holds = reached_holds sets choice proper chooses a s h; widest = λ p w. widest sets a s (reached_good sets choice proper chooses a s h) p w }

-- ---- two settlings
-- a steady table is steady for fewer rules
steady_fewer : (sets : List ℤ → Type 0) (asked asked' : Table) (rs qs : List Rule) (U : Table) → asked ≡ asked' → Among qs rs → Steady sets asked rs U → Steady sets asked' qs U
steady_fewer sets asked asked' rs qs U e among h =
    record {
      kinds = h.kinds;
      inside = subst (Inside U) e h.inside;
      calm = λ i l. let (k, b, q) = among i l in subst (λ (r : Rule). r.narrow U ≡ narrowed U) q (h.calm k b);
    }

module _ (sets : List ℤ → Type 0) (proper : ProperSets sets) (a a' : Ask) (asked : a'.asked ≡ a.asked) (rules : SameRules a.standing a'.standing) where
  there : (U : Table) → Steady sets a.asked a.standing U → Steady sets a'.asked a'.standing U
  there U = steady_fewer sets a.asked a'.asked a.standing a'.standing U (sym asked) rules.back

  returned : (U : Table) → Steady sets a'.asked a'.standing U → Steady sets a.asked a.standing U
  returned U = steady_fewer sets a'.asked a.asked a'.standing a.standing U asked rules.there

  -- what is asked alike is answered alike
  answered_alike : (v v' : Verdict) (T T' : Table) → Answered sets a v T → Answered sets a' v' T' → AlikeAnswers v T v' T'
  answered_alike (Settled n) (Settled m) T T' p q = inside_both T T' proper p.0.steady.kinds q.0.steady.kinds (q.0.widest T (there T p.0.steady)) (p.0.widest T' (returned T' q.0.steady))
  answered_alike (Settled n) (Impossible m i j) T T' p q = q T (there T p.0.steady)
  answered_alike (Impossible n i j) (Settled m) T T' p q = p T' (returned T' q.0.steady)
  answered_alike (Impossible n i j) (Impossible m k l) T T' p q = tt

pub settle_agrees : (sets : List ℤ → Type 0) (choice : List ℕ → ℕ) → ProperSets sets → Chooses choice → (s : State) (r : Result Verdict PlanRefusal) (t : State) → SaysAll sets choice s r t → Agrees sets choice s r t
settle_agrees sets choice proper chooses s (Err f) t says a h choice' chooses' a' s' h' asked rules = tt
settle_agrees sets choice proper chooses s (Ok v) t says a h choice' chooses' a' s' h' asked rules =
    answered_alike sets proper a a' asked rules v (settling choice' s').verdict t.table (settling choice' s').after.table (says a h) (settling_ran sets choice' proper chooses' a' s' (reached_good sets choice' proper chooses' a' s' h')).answered
