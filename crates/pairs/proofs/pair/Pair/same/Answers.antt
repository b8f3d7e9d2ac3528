use Rattle.std.proofs.Common.{map}
use Rattle.windows.specs.Sets.{eq_z, meet}
use Rattle.rules.specs.Writing.{numbers_of}
use Rattle.rules.specs.Made.{made}
use Rattle.rules.proofs.WritingLaws.{numbers_is}
use Rattle.pairs.proofs.PairLaws.{none_given, two_given}
use Rattle.pairs.proofs.pair.Pair.same.Goals as goal

pub returns-in_default : goal.returns-in_default
returns-in_default g c =
    let r = none_given (λ s t. meet s t) (λ s t. meet s t) (λ v w. eq_z v w) c.args.self.now.p c.args.self.now.q (map g.W.Window.stands c.args.rows.now) c.args.self.now.apart (made g.W.Window.numbers c.new.result) c.in_default.ensures c.new.ensures in
    record { equation = r.0; outcome = r.1 }

pub returns : goal.returns
returns g c =
    let n = g.W.Window.numbers in
    let some = λ (w : g.row.W.Denot). (g.met.W.Window.kinds w).some in
    let shared = numbers_is n c.meet-shared.result _ c.meet-shared.ensures in
    let r = two_given (λ s t. meet s t) (λ s t. meet s t) (λ v w. eq_z v w) c.args.self.now.p c.args.self.now.q (map g.W.Window.stands c.args.rows.now) c.args.self.now.apart (made n c.both.result) (numbers_of n c.meet-shared.result) (numbers_of n c.meet-shared.result) _ _ c.both.ensures c.in-Some.ensures.0 c.in-Some.ensures.1 (some _) (some _) shared shared in
    record { equation = r.0; outcome = r.1 }
