use Rattle.std.proofs.Common.{[], ap, ◌∙◌}
use Rattle.listing.specs.Lines.{head_line, lines}
use Rattle.listing.proofs.text.lines.write_listing.Goals as goal

pub returns-in-Settled : goal.returns-in-Settled
returns-in-Settled g c =
    let head = c.write_head.ensures.bytes ∙ ap (head_line []) c.in-Settled.is in
    rw c.in-Settled.is (c.write_lines.ensures ∙ ap (λ w. lines g.R.Shown.look w 64 0 c.args.rows.now c.args.given.now) head)
