use Rattle.std.proofs.Common.{sym, ap, ◌∙◌, rules}
use Rattle.bounded.specs.Lists.{items}
use Rattle.policies.specs.Waiting.{distinct}
use Rattle.policies.specs.DistinctLaws.{distinct_put}
use Rattle.policies.proofs.WaitingSteps.{put_pushed, put_held, put_above}
use Rattle.policies.proofs.waiting.WaitingList.put.Goals as goal

pub invariant_of-self : goal.invariant_of-self
invariant_of-self c =
    let w = items c.args.self.now.rules in
    let e = put_pushed c.args.i w _ _ c.args.self.now.apart c.if-i-lt64.true (sym c.if-not-has.ensures) c.push.ensures in
    record { apart = ap distinct e ∙ distinct_put c.args.i w c.args.self.now.apart }

pub returns-then-not-has : goal.returns-then-not-has
returns-then-not-has c = put_pushed c.args.i (items c.args.self.now.rules) _ _ c.args.self.now.apart c.if-i-lt64.true (sym c.if-not-has.ensures) c.push.ensures

pub returns-else-i-lt64 : goal.returns-else-i-lt64
returns-else-i-lt64 c = search (rules, put_held, put_above)
