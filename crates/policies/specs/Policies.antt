-- What waits in a policy by a choice.
use Rattle.std.specs.Prelude.{◌≡◌, ℕ, true, List}
use Rattle.bounded.specs.Lists.{items}
use Rattle.policies.specs.Waiting.{distinct}
use Rattle.policies.specs.declared.by_choice.ByChoice.{ByChoice}

-- the rules that wait, in the order in which they came
abbrev pub waiting_of : {C : Type 0} → ByChoice C → List ℕ
waiting_of p = items p.list.rules

-- none waits twice, and all are below 64
pub waiting_distinct : {C : Type 0} (p : ByChoice C) → distinct (waiting_of p) ≡ true
waiting_distinct p = p.list.apart
