use Rattle.std.proofs.Common.{◌≡◌, ◌-◌}
use Rattle.sheet.specs.Reading.{LendsOn, view, readings}
use Rattle.sheet.proofs.states.Open.read_all.Given as goal

abbrev pub invariant-loop-turn : goal.invariant-loop-turn
invariant-loop-turn l = (readings (15361 - l.turn) l.bytes (view l.self l.lent) ≡ readings 15361 l.bytes (view l.initial.self l.initial.lent)) × LendsOn l.initial.lent l.lent
