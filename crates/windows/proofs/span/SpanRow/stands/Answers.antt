use Rattle.std.proofs.Common.{subst, arith}
use Rattle.std.proofs.lemmas.Int.{ints}
use Rattle.windows.specs.Rows.{Checked}
use Rattle.windows.specs.SetLaws.{tests}
use Rattle.windows.specs.SpanLaws.{checked}
use Rattle.windows.proofs.span.SpanRow.stands.Goals as goal

pub returns-then-self-ge-LOWEST : goal.returns-then-self-ge-LOWEST
returns-then-self-ge-LOWEST c = subst (Checked c.args.self.now) (grind (arith, ints, tests)) (checked c.args.self.now)

pub returns-else-self-ge-LOWEST : goal.returns-else-self-ge-LOWEST
returns-else-self-ge-LOWEST c = subst (Checked c.args.self.now) (grind (arith, ints, tests)) (checked c.args.self.now)
