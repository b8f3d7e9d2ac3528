use mathlib.Core.Path.{refl}
use Rattle.examples.specs.Examples.{examples}
use Rattle.examples.proofs.Computed.{examples_stand}
use Rattle.examples.proofs.examples_stand.Goals as goal

pub returns : goal.returns
unfolding examples
returns c = record { count = refl; stand = examples_stand }
