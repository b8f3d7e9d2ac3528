use Rattle.std.proofs.Common.{map}
use Rattle.windows.specs.Rows.{span_numbers}
use Rattle.sums.proofs.SumSteps.{tells_kept}
use Rattle.products.proofs.product.Product.narrow.Goals as goal

pub returns-in-None-clause-equation : goal.returns-in-None-clause-equation
returns-in-None-clause-equation c = tells_kept (map span_numbers c.args.rows.now) _ c.empty.result c.in-None.ensures c.empty.ensures
