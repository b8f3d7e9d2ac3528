use Rattle.std.proofs.Common.{not, map}
use Rattle.windows.specs.Sets.{eq_z}
use Rattle.rules.specs.Writing.{numbers_of}
use Rattle.rules.specs.Made.{made}
use Rattle.pairs.specs.Pairs.{lose_sole}
use Rattle.pairs.proofs.PairLaws.{none_given, two_given}
use Rattle.pairs.proofs.pair.Pair.differ.Goals as goal

pub returns-in_default : goal.returns-in_default
returns-in_default g c =
    let r = none_given (λ s t. lose_sole g.W.Window.kind s t) (λ s t. lose_sole g.W.Window.kind t s) (λ v w. not (eq_z v w)) c.args.self.now.p c.args.self.now.q (map g.W.Window.stands c.args.rows.now) c.args.self.now.apart (made g.W.Window.numbers c.new.result) c.in_default.ensures c.new.ensures in
    record { equation = r.0; outcome = r.1 }

pub returns : goal.returns
returns g c =
    let n = g.W.Window.numbers in
    let some = λ (w : g.row.W.Denot). (g.met.W.Window.kinds w).some in
    let r = two_given (λ s t. lose_sole g.W.Window.kind s t) (λ s t. lose_sole g.W.Window.kind t s) (λ v w. not (eq_z v w)) c.args.self.now.p c.args.self.now.q (map g.W.Window.stands c.args.rows.now) c.args.self.now.apart (made n c.both.result) (numbers_of n c.lose_sole.result) (numbers_of n c.lose_sole-2.result) _ _ c.both.ensures c.in-Some.ensures.0 c.in-Some.ensures.1 (some _) (some _) c.lose_sole.ensures c.lose_sole-2.ensures in
    record { equation = r.0; outcome = r.1 }
