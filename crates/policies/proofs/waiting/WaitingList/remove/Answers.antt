use Rattle.std.proofs.Common.{sym, ap, ◌∙◌, rules}
use Rattle.bounded.specs.Lists.{items}
use Rattle.policies.specs.Waiting.{distinct}
use Rattle.policies.specs.DistinctLaws.{distinct_remove}
use Rattle.policies.proofs.WaitingSteps.{remove_found, remove_missing}
use Rattle.policies.proofs.waiting.WaitingList.remove.Goals as goal

pub invariant_of-self : goal.invariant_of-self
invariant_of-self c =
    let w = items c.args.self.now.rules in
    let e = remove_found c.args.i c.in-Some.k w _ _ (sym c.in-Some.is ∙ c.place_of.ensures) c.remove.ensures in
    record { apart = ap distinct e ∙ distinct_remove c.args.i w c.args.self.now.apart }

pub returns-in-Some : goal.returns-in-Some
returns-in-Some c = remove_found c.args.i c.in-Some.k (items c.args.self.now.rules) _ _ (sym c.in-Some.is ∙ c.place_of.ensures) c.remove.ensures

pub returns-in_default : goal.returns-in_default
returns-in_default c = search (rules, remove_missing)
