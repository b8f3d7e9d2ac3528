use Rattle.std.proofs.Common.{◌≡◌, ◌+◌, ◌*◌, ◌≤◌}
use Rattle.std.specs.Iterator.Adapters.{enumerate_source, enumerate_count, take_count}
use Rattle.arrayvec.specs.ArrayString.{array_string_len}
use Rattle.listing.specs.Lines.{lines}
use Rattle.listing.proofs.Steps.{left}
use Rattle.listing.proofs.text.lines.write_lines.Given as goal

-- what is left gives the rest
abbrev pub invariant-loop-i : goal.invariant-loop-i
invariant-loop-i g l =
    let i = enumerate_count l.i-iterator in
    (i + take_count (enumerate_source l.i-iterator) ≡ 64) × (left g.R.Shown.look l.text.bytes l.i-iterator ≡ lines g.R.Shown.look l.initial.text.bytes 64 0 l.rows l.given) × (array_string_len l.text ≤ 80 + 80 * i)
