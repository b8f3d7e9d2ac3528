use Rattle.std.proofs.Common.{◌≤◌, map, length, sym, ap, arith}
use Rattle.std.proofs.lemmas.List.{length-map}
use Rattle.policies.specs.Waiting.{Taken}
use Rattle.policies.specs.DistinctLaws.{at_most_64}
use Rattle.plan.proofs.ProperSets.{ProperSets, proper_sets}
use Rattle.plan.proofs.RunLaws.{Turned, changed_turn, emptied_end, last_turn, no_overflow}
use Rattle.plan.proofs.settling.run.Given as given
use Rattle.plan.proofs.settling.run.Goals as goal

proper : (g : given.Over) → ProperSets g.B.RuleBook.sets
proper g = proper_sets g.B.Kind.Window.kind g.met.B.Kind.Window.proper g.B.RuleBook.sets g.met.B.RuleBook.tied

pub overflow_add-steps : goal.overflow_add-steps
overflow_add-steps g c =
    let book = c.args.book.now in
    let rows = c.args.rows.now in
    let few : length (map g.B.Kind.Window.stands rows) ≤ 64 = simp length-map c.requires.few in
    let fits = no_overflow g.B.RuleBook.sets g.P.Policy.choice (proper g) g.met.P.Policy.chooses (g.B.RuleBook.rules book) (g.met.B.RuleBook.few book) (g.met.B.RuleBook.lawful book) (g.P.Policy.waiting c.args.policy.now) (map g.B.Kind.Window.stands rows) c.loop-rule.steps (g.P.Policy.waiting c.loop-rule.policy) (map g.B.Kind.Window.stands c.loop-rule.rows) c.in-Some.rule c.requires.windows few (at_most_64 (g.P.Policy.waiting c.args.policy.now) (g.met.P.Policy.all_distinct c.args.policy.now)) c.loop-rule.invariant (ap (λ (t : Taken). t.answer) c.in-Some.ensures) in
    omega arith

-- the turn after a narrowing that emptied nothing
changed : (g : given.Over) (c : goal.After-wake g) → Turned g.B.RuleBook.sets g.P.Policy.choice (g.B.RuleBook.rules c.args.book.now) (g.P.Policy.waiting c.args.policy.now) (map g.B.Kind.Window.stands c.args.rows.now) c.loop-rule.steps (g.P.Policy.waiting c.loop-rule.policy) (map g.B.Kind.Window.stands c.loop-rule.rows) (g.P.Policy.waiting c.wake.new.policy) (map g.B.Kind.Window.stands c.narrow.new.rows)
changed g c =
    let book = c.args.book.now in
    changed_turn g.B.RuleBook.sets g.P.Policy.choice (proper g) g.met.P.Policy.chooses (g.B.RuleBook.rules book) (g.met.B.RuleBook.few book) (g.met.B.RuleBook.lawful book) (g.P.Policy.waiting c.args.policy.now) (map g.B.Kind.Window.stands c.args.rows.now) c.loop-rule.steps (g.P.Policy.waiting c.loop-rule.policy) (map g.B.Kind.Window.stands c.loop-rule.rows) c.loop-rule.invariant c.in-Some.rule (g.P.Policy.waiting c.take.new.self) c.in-Some.ensures (map g.B.Kind.Window.stands c.narrow.new.rows) (g.P.Policy.waiting c.wake.new.policy) c.in-Ok.changes (length c.args.rows.now) (simp length-map (omega arith)) c.in-Ok.ensures.equation c.wake.ensures

pub loop-rule-smaller : goal.loop-rule-smaller
loop-rule-smaller g c = (changed g c).less

pub loop-rule-preserved : goal.loop-rule-preserved
loop-rule-preserved g c = (changed g c).again

pub returns-in-Err : goal.returns-in-Err
returns-in-Err g c =
    let book = c.args.book.now in
    emptied_end g.B.RuleBook.sets g.P.Policy.choice (proper g) g.met.P.Policy.chooses (g.B.RuleBook.rules book) (g.met.B.RuleBook.few book) (g.met.B.RuleBook.lawful book) (g.P.Policy.waiting c.args.policy.now) (map g.B.Kind.Window.stands c.args.rows.now) c.loop-rule.steps (g.P.Policy.waiting c.loop-rule.policy) (map g.B.Kind.Window.stands c.loop-rule.rows) c.loop-rule.invariant c.in-Some.rule (g.P.Policy.waiting c.take.new.self) c.in-Some.ensures (map g.B.Kind.Window.stands c.narrow.new.rows) c.in-Err.field-0 c.in-Err.ensures.equation

pub returns : goal.returns
returns g c =
    let book = c.args.book.now in
    let told = c.in_default.ensures in
    last_turn g.B.RuleBook.sets g.P.Policy.choice (proper g) g.met.P.Policy.chooses (g.B.RuleBook.rules book) (g.met.B.RuleBook.few book) (g.met.B.RuleBook.lawful book) (g.P.Policy.waiting c.args.policy.now) (map g.B.Kind.Window.stands c.args.rows.now) c.loop-rule.steps (g.P.Policy.waiting c.loop-rule.policy) (map g.B.Kind.Window.stands c.loop-rule.rows) (g.P.Policy.waiting c.take.new.self) c.loop-rule.invariant (ap (λ (t : Taken). t.answer) told) (sym (ap (λ (t : Taken). t.after) told))
