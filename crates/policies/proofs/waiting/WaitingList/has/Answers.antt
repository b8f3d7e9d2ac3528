use Rattle.std.proofs.Common.{◌∙◌, ap, ◌==◌}
use Rattle.std.specs.List.{list_any}
use Rattle.bounded.specs.Lists.{items}
use Rattle.policies.proofs.WaitingSteps.{any_holds}
use Rattle.policies.proofs.waiting.WaitingList.has.Goals as goal

pub returns : goal.returns
returns c = c.contains.ensures.value ∙ ap (list_any (λ x. x == c.args.i)) c.as_slice.ensures ∙ any_holds c.args.i (items c.args.self.now.rules)
