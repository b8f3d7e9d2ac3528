-- The new windows that a rule has made.
use Rattle.std.specs.Prelude.{List, ℤ}
use Rattle.bounded.specs.Lists.{items}
use Rattle.rules.specs.Pointwise.{Entry}
use Rattle.rules.specs.Writing.{listed}
use Rattle.rules.specs.declared.new_windows.NewWindows.{NewWindows}

-- the new windows that were made, by their numbers
abbrev pub made : {W : Type 0} → (W → List ℤ) → NewWindows W → List Entry
made numbers ws = listed numbers (items ws.list)
