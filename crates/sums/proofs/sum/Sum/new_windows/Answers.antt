use Rattle.std.proofs.Common.{List, ℕ, ℤ, map, Some, sym, ap, ◌∙◌, subst, w64, SFits, rules}
use Rattle.std.proofs.lemmas.Int.{to_z-of_z}
use Rattle.std.proofs.lemmas.List.{take_all}
use Rattle.windows.specs.Sets.{range}
use Rattle.windows.specs.Rows.{span_numbers}
use Rattle.rules.specs.Made.{made}
use Rattle.sums.specs.Sums.{is_exact, sum_new}
use Rattle.sums.specs.Steps.{ExtremesOf, entries}
use Rattle.sums.specs.declared.posted.Term.{Term}
use Rattle.sums.proofs.SumSteps.{Fit, fit_is, weight_fits, term_weighs, read_at, row_new, numbers_window, entries_more}
use Rattle.sums.proofs.sum.Sum.new_windows.Goals as goal
use Rattle.sums.proofs.sum.Sum.new_windows.Goals.{in-Some, in_default}

pub invariant_of-weight : goal.invariant_of-weight
invariant_of-weight c =
    let fit = subst Fit (sym c.terms-term-items.ensures) (fit_is c.args.self.now) in
    let w = term_weighs c.terms-term-items.result.now c.loop-term.term-index c.loop-term-test.true fit.weights in
    let fw = weight_fits _ w in
    simp to_z-of_z (record { fits = w })

pub loop-term-preserved : goal.loop-term-preserved
loop-term-preserved c =
    let ts = c.terms-term-items.result.now in
    let b = c.args.self.now.bound in
    let exact = is_exact c.args.self.now.relation in
    let T = map span_numbers c.args.rows.now in
    let i = c.loop-term.term-index in
    let h = c.loop-term-test.true in
    let fit = subst Fit (sym c.terms-term-items.ensures) (fit_is c.args.self.now) in
    let sums = subst (λ l. ExtremesOf l T (Some c.args.sums)) (sym c.terms-term-items.ensures) c.requires in
    let fw = weight_fits _ (term_weighs ts i h fit.weights) in
    let fl : SFits w64 c.args.sums.from = search rules in
    let fg : SFits w64 c.args.sums.to = search rules in
    elim c.match-window_at.branch [
      | in-Some w ↦
          let new = numbers_window _ w.new_window.result (simp to_z-of_z at w.new_window.ensures) ∙ row_new ts b exact T i _ _ _ _ h fit.different sums.1 sums.2 (sym w.in-Some.ensures) in
          ap (made (λ w. range w.lo w.hi)) w.new-is ∙ entries_more (sum_new ts b exact T) ts i _ _ _ fit h c.loop-term.invariant new w.push.ensures
      | in_default w ↦ absurd (read_at T ts i h sums.0 w.in_default.ensures)
    ]

pub returns : goal.returns
returns c =
    let new : List Term → ℕ → List ℤ = λ ts. sum_new ts c.args.self.now.bound (is_exact c.args.self.now.relation) (map span_numbers c.args.rows.now) in
    c.loop-term.invariant ∙ ap (entries (new _)) (take_all c.loop-term.term-index c.terms-term-items.result.now c.loop-term-test.false) ∙ ap (λ ts. entries (new ts) ts) c.terms-term-items.ensures
