use Rattle.std.proofs.Common.{map, refl}
use Rattle.windows.specs.Rows.{span_numbers}
use Rattle.sums.specs.Sums.{is_exact}
use Rattle.sums.specs.Meaning.{terms_of}
use Rattle.sums.proofs.SumSteps.{tells_some, tells_kept, unread_outcome}
use Rattle.sums.proofs.MeaningLaws.{narrow_keeps, sum_reached}
use Rattle.sums.proofs.sum.Sum.narrow.Goals as goal

pub returns-in-Some : goal.returns-in-Some
returns-in-Some c =
    let s = c.args.self.now in
    let T = map span_numbers c.args.rows.now in
    let e = tells_some (terms_of s) s.bound (is_exact s.relation) T _ _ _ c.in-Some.ensures.0 c.new_windows.ensures c.write.ensures.equation in
    record { equation = e; rows = c.write.ensures.rows; keeps = narrow_keeps s T _ _ e; reached = sum_reached s }

pub returns-in-None : goal.returns-in-None
returns-in-None c =
    let s = c.args.self.now in
    let T = map span_numbers c.args.rows.now in
    let e = tells_kept T _ c.empty.result (unread_outcome (terms_of s) s.bound (is_exact s.relation) T c.in-None.ensures) c.empty.ensures in
    record { equation = e; rows = λ j d h. refl; keeps = narrow_keeps s T _ _ e; reached = sum_reached s }
