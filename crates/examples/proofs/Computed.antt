-- The examples, computed.
use mathlib.Core.Path.{◌≡◌, refl}
use mathlib.Core.Bool.{true}
use Rattle.windows.specs.Sets.{eq_z, count, range, hull, meet, remove}
use Rattle.windows.specs.Kinds.{all_but}
use Rattle.rules.specs.Pointwise.{judged, make_all, narrow_by}
use Rattle.sums.specs.Sums.{sum_passes, sum_new}
use Rattle.products.specs.Products.{multiplied, weakly_divides, divided, product_new}
use Rattle.examples.specs.Examples.{all_stand, examples}

pub examples_stand : all_stand examples ≡ true
unfolding examples all_stand eq_z count range hull meet remove all_but judged make_all narrow_by sum_passes sum_new multiplied weakly_divides divided product_new
examples_stand = refl
