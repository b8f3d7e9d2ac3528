use Rattle.std.proofs.Common.{arith}
use Rattle.windows.specs.SetLaws.{tests}
use Rattle.products.proofs.product.Product.check.Goals as goal

pub returns-clause-means : goal.returns-clause-means
returns-clause-means c = record { only = λ P h. grind (arith, tests); all = λ P h. grind (arith, tests) }
