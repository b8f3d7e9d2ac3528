use Rattle.std.proofs.Common.{sym, arith}
use Rattle.std.proofs.lemmas.Bool.Decides.{nat_tests}
use Rattle.bounded.specs.Lists.{items}
use Rattle.rules.proofs.WritingLaws.{push_kept}
use Rattle.rules.proofs.new_windows.NewWindows.push.Goals as goal
use Rattle.rules.proofs.new_windows.NewWindows.push.Goals.{else-at-lt64-via-then-at-lt64+else-not-has, else-at-lt64-via-else-at-lt64}

pub invariant_of-self : goal.invariant_of-self
invariant_of-self g c =
    let k = push_kept g.W.Window.numbers (items c.args.self.now.list) _ (record { at = c.args.at; new = c.args.new }) _ c.push.ensures c.args.self.now.close c.args.self.now.apart c.if-at-lt64.true (sym c.if-not-has.ensures) in
    record { close = k.0; apart = k.1 }

pub returns-else-at-lt64 : goal.returns-else-at-lt64
returns-else-at-lt64 g c =
    elim c.else-at-lt64.branch [ else-at-lt64-via-then-at-lt64+else-not-has w ↦ let h = w.if-not-has.ensures in grind (arith, nat_tests) | else-at-lt64-via-else-at-lt64 w ↦ let h = w.if-at-lt64.false in grind (arith, nat_tests) ]
