use Rattle.std.proofs.Common.{Err, sym, ap, ◌∙◌}
use Rattle.std.proofs.lemmas.Bool.{cond-true, cond-false}
use Rattle.windows.specs.Rows.{span_stands}
use Rattle.sheet.proofs.WindowLaws.{row_passes, row_fails}
use Rattle.sheet.proofs.states.Open.add_window.Goals as goal

pub returns-clause-value : goal.returns-clause-value
returns-clause-value c =
    let w = c.in-Some._window in
    cond-true (span_stands c.args.row) _ _ (row_passes c.args.row w.lo w.hi w.stands c.in-Some.ensures)

pub returns-in_default-clause-value : goal.returns-in_default-clause-value
returns-in_default-clause-value c = cond-false (span_stands c.args.row) _ _ (row_fails c.args.row c.in_default.ensures) ∙ ap Err (sym c.into.ensures)
