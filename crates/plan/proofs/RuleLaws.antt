-- What the four laws give for one narrowing.
use Rattle.std.proofs.Common.{◌≡◌, ℕ, ◌<◌, ◌≤◌, true, false, ◌&&◌, List, [], length, get_or, ℤ, sym, refl, ap, ◌∙◌, subst, ⊎_elim, arith}
use Rattle.std.proofs.lemmas.List.{get_or_past}
use Rattle.std.proofs.lemmas.Bool.{cases_lt, cases_Bool, both_ways, not-false, and_cases}
use Rattle.windows.specs.Sets.{same_set}
use Rattle.windows.specs.SpanLaws.{same_set_is}
use Rattle.rulebook.specs.Tables.{Table, Placing, window, Inside, Every, differs}
use Rattle.rulebook.specs.Rules.{Rule, Outcome, narrowed, emptied, missing, Alike, Lawful}
use Rattle.plan.specs.Settling.{touched}
use Rattle.plan.proofs.TableLaws.{inside_refl, same_table}
use Rattle.plan.proofs.AnyLaws.{any_none}

pub narrowed_once : {T U : Table} → narrowed T ≡ narrowed U → T ≡ U
narrowed_once e = cc

pub not_both : {T : Table} {j : ℕ} {o : Outcome} → o ≡ narrowed T → o ≡ emptied j → ⊥
not_both p q = cc

pub missing_lawful : (sets : List ℤ → Type 0) → Lawful sets missing
missing_lawful sets =
    record {
      shrinks = λ T U k e. subst (λ (V : Table). Every sets V × Inside V T) (narrowed_once e) (k, inside_refl T);
      unread = λ T U j k e r. ap (λ (V : Table). window V j) (sym (narrowed_once e));
      local = λ T U k l m h j r. h j r;
      monotone = λ T U T' k l i e. (U, refl, subst (λ (V : Table). Inside V U) (narrowed_once e) i);
      keeps = λ T p k h e. (T, refl, h);
    }

pub lawful_all : (sets : List ℤ → Type 0) (rules : List Rule) → ((i : ℕ) → i < length rules → Lawful sets (get_or rules i missing)) → (i : ℕ) → Lawful sets (get_or rules i missing)
lawful_all sets rules h i =
    ⊎_elim (h i) (λ l. rw (get_or_past rules i missing l) (missing_lawful sets)) (cases_lt i (length rules))

pub calm_all : (rules : List Rule) (T : Table) → ((i : ℕ) → i < length rules → (get_or rules i missing).narrow T ≡ narrowed T) → (i : ℕ) → (get_or rules i missing).narrow T ≡ narrowed T
calm_all rules T h i =
    ⊎_elim (h i) (λ l. rw (get_or_past rules i missing l) refl) (cases_lt i (length rules))

pub allowed_all : (rules : List Rule) (p : Placing) → ((i : ℕ) → i < length rules → (get_or rules i missing).allows p ≡ true) → (i : ℕ) → (get_or rules i missing).allows p ≡ true
allowed_all rules p h i =
    ⊎_elim (h i) (λ l. rw (get_or_past rules i missing l) refl) (cases_lt i (length rules))

-- a rule that reads no changed window reads the same in both tables
pub agree : (r : Rule) (T U : Table) → length T ≡ length U → touched T U r ≡ false → (j : ℕ) → r.reads j ≡ true → window T j ≡ window U j
agree r T U l e j h = ⊎_elim within beyond (cases_lt j (length T))
  where
    within : j < length T → window T j ≡ window U j
    within b =
        ⊎_elim (λ q. same_set_is (window T j) (window U j) (not-false (same_set (window T j) (window U j)) q)) (λ q. absurd (both_ways (r.reads j) q h)) (and_cases (differs T U j) (r.reads j) (any_none (λ k. differs T U k && r.reads k) (length T) j e b))

    beyond : length T ≤ j → window T j ≡ window U j
    beyond b = get_or_past T j [] b ∙ sym (get_or_past U j [] (omega arith))

-- such a rule, if it did not narrow the first, does not narrow the second: the local law
pub calm_still : (sets : List ℤ → Type 0) (r : Rule) (T U : Table) → Lawful sets r → Every sets T → Every sets U → length T ≡ length U → ((j : ℕ) → r.reads j ≡ true → window T j ≡ window U j) → r.narrow T ≡ narrowed T → r.narrow U ≡ narrowed U
calm_still sets r T U law kt ku l same calm = go (r.narrow U) refl
  where
    alike : Alike r.reads (narrowed T) (r.narrow U)
    alike = subst (λ (o : Outcome). Alike r.reads o (r.narrow U)) calm (law.local T U kt ku l same)

    go : (o : Outcome) → r.narrow U ≡ o → o ≡ narrowed U
    go (narrowed V) e = ap narrowed (same_table V U (law.shrinks U V ku e).1.long each)
      where
        like : (j : ℕ) → r.reads j ≡ true → window T j ≡ window V j
        like = subst (λ (o : Outcome). Alike r.reads (narrowed T) o) e alike

        each : (j : ℕ) → window V j ≡ window U j
        each j = ⊎_elim (λ h. sym (like j h) ∙ same j h) (λ h. law.unread U V j ku e h) (cases_Bool (r.reads j))
    go (emptied k) e = absurd (subst (λ (o : Outcome). Alike r.reads (narrowed T) o) e alike)

-- and one that itself made the change, and reads none of it, changed nothing
pub calm_self : (sets : List ℤ → Type 0) (r : Rule) (T U : Table) → Lawful sets r → Every sets T → r.narrow T ≡ narrowed U → touched T U r ≡ false → r.narrow U ≡ narrowed U
calm_self sets r T U law kt e h = subst (λ (V : Table). r.narrow V ≡ narrowed U) same e
  where
    long : length T ≡ length U
    long = sym (law.shrinks T U kt e).1.long

    same : T ≡ U
    same = same_table T U long (λ j. ⊎_elim (agree r T U long h j) (λ q. sym (law.unread T U j kt e q)) (cases_Bool (r.reads j)))
