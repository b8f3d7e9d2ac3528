use Rattle.std.proofs.Common.{◌+◌, ◌<◌, ◌≤◌, map, get_or, Some, drop, sym, ap, ◌∙◌, subst, arith, w64, SFits, rules}
use Rattle.std.proofs.lemmas.Int.{ints, clamps, to_z-of_z}
use Rattle.windows.specs.Rows.{span_numbers}
use Rattle.sums.specs.Sums.{term_least, term_greatest}
use Rattle.sums.specs.Steps.{all_read, ExtremesOf}
use Rattle.sums.proofs.QuestionLaws.{stopped, passed, ended}
use Rattle.sums.proofs.Totals.{no_term, total_more, total_end}
use Rattle.sums.proofs.SumSteps.{Fit, fit_is, weight_fits, term_weighs, read_none, read_some, least_is, greatest_is, small_step, small_fits, small_end}
use Rattle.sums.proofs.sum.Sum.extremes.Goals as goal

pub returns-in_err-span : goal.returns-in_err-span
returns-in_err-span c =
    let ts = c.terms-term-items.result.now in
    let T = map span_numbers c.args.rows.now in
    let i = c.loop-term.term-index in
    let f = stopped (λ l. all_read l T) ts i c.loop-term.invariant.read _ c.loop-term-test.true (read_none T (get_or ts i no_term) (drop (i + 1) ts) c.in_err-span.ensures) in
    subst (ExtremesOf _ T) (sym c.from_residual.ensures) (ap (λ l. all_read l T) (sym c.terms-term-items.ensures) ∙ sym f)

pub invariant_of-weight : goal.invariant_of-weight
invariant_of-weight c =
    let fit = subst Fit (sym c.terms-term-items.ensures) (fit_is c.args.self.now) in
    let w = term_weighs c.terms-term-items.result.now c.loop-term.term-index c.loop-term-test.true fit.weights in
    let f = weight_fits _ w in
    simp to_z-of_z (record { fits = w })

pub overflow_add-sums : goal.overflow_add-sums
overflow_add-sums c =
    let fit = subst Fit (sym c.terms-term-items.ensures) (fit_is c.args.self.now) in
    let s = c.loop-term.invariant.least_small in
    let o = c.extremes-own.ensures.least.1 in
    omega (arith, ints, clamps)

pub overflow_add-sums-in-loop-term : goal.overflow_add-sums-in-loop-term
overflow_add-sums-in-loop-term c =
    let fit = subst Fit (sym c.terms-term-items.ensures) (fit_is c.args.self.now) in
    let s = c.loop-term.invariant.greatest_small in
    let o = c.extremes-own.ensures.greatest.1 in
    omega (arith, ints, clamps)

pub loop-term-preserved : goal.loop-term-preserved
loop-term-preserved c =
    let ts = c.terms-term-items.result.now in
    let T = map span_numbers c.args.rows.now in
    let i = c.loop-term.term-index in
    let t = get_or ts i no_term in
    let span = c.in_ok-span.span in
    let r = c.in_ok-span.ensures in
    let fit = subst Fit (sym c.terms-term-items.ensures) (fit_is c.args.self.now) in
    let h : i < 8 = omega (arith, fit.few, c.loop-term-test.true) in
    let w = term_weighs ts i c.loop-term-test.true fit.weights in
    let fw = weight_fits _ w in
    let inv = c.loop-term.invariant in
    let lb = c.extremes-own.ensures.least.1 in
    let gb = c.extremes-own.ensures.greatest.1 in
    let fl : SFits w64 c.extremes-own.result.from = search rules in
    let fg : SFits w64 c.extremes-own.result.to = search rules in
    let lv = least_is T t span.lo span.hi c.extremes-own.result.from r (simp to_z-of_z at c.extremes-own.ensures.least.0) in
    let gv = greatest_is T t span.lo span.hi c.extremes-own.result.to r (simp to_z-of_z at c.extremes-own.ensures.greatest.0) in
    let sl = small_fits i _ c.extremes-own.result.from h inv.least_small lb in
    let sg = small_fits i _ c.extremes-own.result.to h inv.greatest_small gb in
    let al : SFits w64 c.loop-term.sums.from = omega (arith, ints, inv.least_small) in
    let ag : SFits w64 c.loop-term.sums.to = omega (arith, ints, inv.greatest_small) in
    simp to_z-of_z (record { read = passed (λ l. all_read l T) ts i inv.read c.loop-term-test.true (read_some T t (drop (i + 1) ts) span.lo span.hi span.stands.0 r); least = total_more (term_least T) ts i _ c.extremes-own.result.from _ c.loop-term-test.true inv.least lv; greatest = total_more (term_greatest T) ts i _ c.extremes-own.result.to _ c.loop-term-test.true inv.greatest gv; least_small = small_step i _ c.extremes-own.result.from inv.least_small lb; greatest_small = small_step i _ c.extremes-own.result.to inv.greatest_small gb })

pub returns : goal.returns
returns c =
    let ts = c.terms-term-items.result.now in
    let T = map span_numbers c.args.rows.now in
    let i = c.loop-term.term-index in
    let h = c.loop-term-test.false in
    let inv = c.loop-term.invariant in
    let fit = subst Fit (sym c.terms-term-items.ensures) (fit_is c.args.self.now) in
    let k : i ≤ 8 = omega (arith, fit.few, c.loop-term.auto.term-index-end) in
    subst (λ l. ExtremesOf l T (Some c.loop-term.sums)) c.terms-term-items.ensures (sym (ended (λ l. all_read l T) ts i inv.read h), total_end (term_least T) ts i _ _ h inv.least, total_end (term_greatest T) ts i _ _ h inv.greatest, small_end i _ k inv.least_small, small_end i _ k inv.greatest_small)
