use Rattle.std.proofs.Common.{drop}
use Rattle.rulebook.specs.Answers.{member}
use Rattle.rules.specs.Writing.{listed}
use Rattle.rules.proofs.WritingLaws.{Written}
use Rattle.rules.proofs.new_windows.NewWindows.put_all.Given as goal

abbrev pub invariant-loop-entry : goal.invariant-loop-entry
invariant-loop-entry g l = Written g.W.Window.stands l.initial.rows l.rows (member l.changed) (listed g.W.Window.numbers l.entry-items) (drop l.entry-index (listed g.W.Window.numbers l.entry-items))
