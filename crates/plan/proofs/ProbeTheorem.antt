-- A tried cut leads back to what was asked before it.
use Rattle.std.proofs.Common.{◌≡◌, ℕ, zero, suc, Bool, true, false, cond, eqb, List, [], ◌∷◌, length, get_or, set, ℤ, Some, None, Ok, Option, Result, sym, refl, ap, ◌∙◌, subst}
use Rattle.std.proofs.lemmas.List.{length-set}
use Rattle.std.proofs.lemmas.Bool.{eq-eqb}
use Rattle.windows.specs.Sets.{same_set, meet}
use Rattle.rulebook.specs.Tables.{window, all_filled}
use Rattle.rulebook.specs.Rules.{Outcome, narrowed, emptied, missing}
use Rattle.rulebook.specs.Answers.{reads_at}
use Rattle.policies.specs.Waiting.{Chooses, puts, remove}
use Rattle.plan.specs.States.{State, at}
use Rattle.plan.specs.Settling.{woken, Step, narrowing, step_at, Run, onward, run, enough, settling}
use Rattle.plan.specs.Calls.{Cut, cut_to, cutting, marking, is_open, taking_back}
use Rattle.plan.specs.Refusals.{refused, or_else, window_refusal, mark_refusal, open_refusal, Call, unless, settle_call, back_call}
use Rattle.plan.specs.Asking.{Ask, Reached, cut, settled, marked, back, ask_same, ask_cut, ask_marked, ask_back, ask_back_at}
use Rattle.plan.specs.Theorem.{Carries}
use Rattle.plan.specs.Probe.{settle_after, cut_and_settle, try_marked, try_call}
use Rattle.plan.specs.declared.answer.Cutting.{Cutting}
use Rattle.plan.specs.declared.answer.Cutting.TheVariants.{Changed, Unchanged}
use Rattle.plan.specs.declared.answer.Verdict.{Verdict}
use Rattle.plan.specs.declared.answer.Verdict.TheVariants.{Impossible}
use Rattle.plan.specs.declared.answer.Closing.{Closing}
use Rattle.plan.specs.declared.answer.Closing.TheVariants.{Done}
use Rattle.plan.specs.declared.answer.PlanRefusal.{PlanRefusal}
use Rattle.plan.specs.declared.answer.PlanRefusal.TheVariants.{Ended}
use Rattle.plan.specs.declared.plan.marks.Mark.{Mark}
use Rattle.plan.proofs.ProperSets.{ProperSets}
use Rattle.plan.proofs.BoardLaws.{all_filled_from}
use Rattle.plan.proofs.CallExits.{none_asked, in_table_from}
use Rattle.plan.proofs.CallLaws.{reached_good, reached_holds}

-- ---- what cuts and settlings leave alone
-- the open marks and the plan's count of windows
record Beside (s t : State) : Type 0 where
  marks : t.marks ≡ s.marks
  windows : t.windows ≡ s.windows

cut_beside : (j : ℕ) (g : List ℤ) (s : State) → Beside s (cutting j g s).after
cut_beside j g s = go (meet (window s.table j) g)
  where
    go : (m : List ℤ) → Beside s (cut_to j s m).after
    go [] = record { marks = refl; windows = refl }
    go (v ∷ m) = ways (same_set (window s.table j) (v ∷ m))
      where
        ways : (b : Bool) → Beside s (cond {A = Cut} b (record { answer = Unchanged; after = s }) (record { answer = Changed; after = at s (set s.table j (v ∷ m)) (puts (reads_at s.rules j) (length s.rules) s.waiting) })).after
        ways true = record { marks = refl; windows = refl }
        ways false = record { marks = refl; windows = refl }

run_beside : (choice : List ℕ → ℕ) (k n : ℕ) (s : State) → Beside s (run choice k n s).after
run_beside choice zero n s = record { marks = refl; windows = refl }
run_beside choice (suc k) n s = at-waiting s.waiting (run_beside choice k (suc n))
  where
    rest : Step → Run
    rest = onward n s (run choice k (suc n))

    at-outcome : (i : ℕ) (w : List ℕ) (o : Outcome) → ((u : State) → Beside u (run choice k (suc n) u).after) → Beside s (rest (narrowing s i w o)).after
    at-outcome i w (narrowed U) ih = let b = ih (at s U (woken s.rules s.table U w)) in record { marks = b.marks; windows = b.windows }
    at-outcome i w (emptied j) ih = record { marks = refl; windows = refl }

    at-waiting : (w : List ℕ) → ((u : State) → Beside u (run choice k (suc n) u).after) → Beside s (rest (step_at choice s w)).after
    at-waiting [] ih = record { marks = refl; windows = refl }
    at-waiting (x ∷ w) ih = at-outcome (choice (x ∷ w)) (remove (choice (x ∷ w)) (x ∷ w)) ((get_or s.rules (choice (x ∷ w)) missing).narrow s.table) ih

settling_beside : (choice : List ℕ → ℕ) (s : State) → Beside s (settling choice s).after
settling_beside choice s = go s.impossible
  where
    Leaves : Run → Type 0
    Leaves r = Beside s r.after

    go : (b : Bool) → Leaves (elim b [ true ↦ record { verdict = Impossible 0 64 64; after = s } | false ↦ run choice (enough s) 0 s ])
    go true = record { marks = refl; windows = refl }
    go false = run_beside choice (enough s) 0 s

-- ---- the newest mark
module _ (sets : List ℤ → Type 0) (choice : List ℕ → ℕ) (proper : ProperSets sets) (chooses : Chooses choice) (long : ℕ) (a : Ask) (s : State) (h : Reached sets choice a s) (fine : refused long s ≡ None) where
  -- the board is not refused after it either
  still_fine : (b : Ask) (t : State) → Reached sets choice b t → length b.asked ≡ length a.asked → t.windows ≡ s.windows → refused long t ≡ None
  still_fine b t r same windows =
      let p = (reached_good sets choice proper chooses b t r).sound in
      let q = (reached_good sets choice proper chooses a s h).sound in
      let n : length t.table ≡ length s.table = p.long ∙ same ∙ sym q.long in
      let f : all_filled t.table ≡ all_filled s.table = all_filled_from sets t.table proper.some p.kinds ∙ sym (all_filled_from sets s.table proper.some q.kinds) in
      like n f windows ∙ fine
    where
      like : length t.table ≡ length s.table → all_filled t.table ≡ all_filled s.table → t.windows ≡ s.windows → refused long t ≡ refused long s
      like n f w = cc

  -- it is open, and taking it back asks for what was asked when it was handed out
  back_leads : (b : Ask) (t : State) → Reached sets choice b t → length b.asked ≡ length a.asked → b.held ≡ (ask_marked s.handed a).held → Beside (marking s) t → Reached sets choice a (back_call s.handed long t).after
  back_leads b t r same held beside =
      subst (λ (o : Option PlanRefusal). Reached sets choice a (unless {A = Closing} o t (record { answer = Ok Done; after = taking_back s.handed t })).after) (sym none) (subst (λ (x : Ask). Reached sets choice x (taking_back s.handed t)) asks (back s.handed b t r))
    where
      self : eqb s.handed s.handed ≡ true
      self = eq-eqb s.handed s.handed refl

      is-there : is_open s.handed t.marks ≡ true
      is-there = ap (is_open s.handed) beside.marks ∙ ap (λ (x : Bool). cond x true (is_open s.handed s.marks)) self

      none : or_else (refused long t) (open_refusal s.handed t) ≡ None
      none = ap (λ (o : Option PlanRefusal). or_else o (open_refusal s.handed t)) (still_fine b t r same beside.windows) ∙ ap (λ (x : Bool). cond x None (Some Ended)) is-there

      asks : ask_back s.handed b ≡ a
      asks = ap (ask_back_at s.handed b) held ∙ ap (λ (x : Bool). cond x a (ask_back_at s.handed b a.held)) self

  -- the plan is cut under the mark, if the cut is not refused, and settled, if that is not refused; then the mark is taken back
  settle_leads : (b : Ask) (u : State) → Reached sets choice b u → length b.asked ≡ length a.asked → b.held ≡ (ask_marked s.handed a).held → Beside (marking s) u → Reached sets choice a (back_call s.handed long (settle_call choice long u).after).after
  settle_leads b u r same held beside = go (refused long u)
    where
      go : (o : Option PlanRefusal) → Reached sets choice a (back_call s.handed long (unless {A = Verdict} o u (record { answer = Ok (settling choice u).verdict; after = (settling choice u).after })).after).after
      go (Some f) = back_leads b u r same held beside
      go None = let k = settling_beside choice u in back_leads b (settling choice u).after (settled b u r) same held (record { marks = k.marks ∙ beside.marks; windows = k.windows ∙ beside.windows })

  cut_leads : (j : ℕ) (g : List ℤ) → sets g → Reached sets choice a (back_call s.handed long (cut_and_settle choice j g long (marking s)).after).after
  cut_leads j g k = go (or_else (refused long (marking s)) (window_refusal j s.table)) refl
    where
      call : Option PlanRefusal → Call Cutting
      call o = unless o (marking s) (record { answer = Ok (cutting j g (marking s)).answer; after = (cutting j g (marking s)).after })

      go : (o : Option PlanRefusal) → or_else (refused long (marking s)) (window_refusal j s.table) ≡ o → Reached sets choice a (back_call s.handed long (settle_after choice long (call o).answer (call o).after).after).after
      go (Some f) e = back_leads (ask_marked s.handed a) (marking s) (marked a s h) refl refl (record { marks = refl; windows = refl })
      go None e =
          let l = in_table_from j s.table (none_asked (refused long (marking s)) (window_refusal j s.table) e).1 in
          settle_leads (ask_cut j g (ask_marked s.handed a)) (cutting j g (marking s)).after (cut j g (ask_marked s.handed a) (marking s) l k (marked a s h)) (length-set a.asked j (meet (window a.asked j) g)) refl (cut_beside j g (marking s))

-- ---- a tried cut
-- It asks for nothing new, refused or not.
pub try_carries : (sets : List ℤ → Type 0) (choice : List ℕ → ℕ) → ProperSets sets → Chooses choice → (j : ℕ) (g : List ℤ) → sets g → (long : ℕ) (s : State) (r : Result Verdict PlanRefusal) (t : State) → try_call choice j g long s ≡ record { answer = r; after = t } → Carries sets choice ask_same s t
try_carries sets choice proper chooses j g k long s r t e =
    subst (λ (c : Call Verdict). Carries sets choice ask_same s c.after) e (record { reached = leads; holds = λ a h. reached_holds sets choice proper chooses a (try_call choice j g long s).after (leads a h) })
  where
    call : Option PlanRefusal → Call Mark
    call o = unless o s (record { answer = Ok (record { number = s.handed }); after = marking s })

    go : (a : Ask) → Reached sets choice a s → (o : Option PlanRefusal) → or_else (refused long s) (mark_refusal s) ≡ o → Reached sets choice a (try_marked choice j g long (call o).answer (call o).after).after
    go a h (Some f) q = h
    go a h None q = cut_leads sets choice proper chooses long a s h (none_asked (refused long s) (mark_refusal s) q).0 j g k

    leads : (a : Ask) → Reached sets choice a s → Reached sets choice a (try_call choice j g long s).after
    leads a h = go a h (or_else (refused long s) (mark_refusal s)) refl
