use Rattle.std.proofs.Common.{◌≡◌, ◌+◌, ◌-◌, ◌<◌, true, false, is_none, Ok, Err, sym, ap, ◌∙◌, arith, rules}
use Rattle.sheet.specs.Reading.{view, reading, readings, quiet}
use Rattle.sheet.proofs.ReadingLaws.{lends_on, on_end, on_err, on_more, on_none}
use Rattle.sheet.proofs.states.Open.read_all.Goals as goal

pub returns-in_err-read : goal.returns-in_err-read
returns-in_err-read c =
    let bs = c.args.bytes.now in
    let s = view c.loop-turn.self c.loop-turn.lent in
    let left : 0 < 15361 - c.loop-turn.turn = omega arith in
    let e : (reading bs s).answer ≡ Err c.in_err-read.field-0.0 = ap (λ x. x.answer) c.read.ensures.equation ∙ c.in_err-read.was in
    let r = sym (on_err (15361 - c.loop-turn.turn) bs s c.in_err-read.field-0.0 left e) ∙ c.loop-turn.invariant.0 in
    let q : c.from_residual.result ≡ Err c.in_err-read.field-0.0 = search rules in
    record { answer = q ∙ ap quiet (sym e) ∙ ap (λ x. quiet x.answer) r; after = sym (ap (λ x. x.after) c.read.ensures.equation) ∙ ap (λ x. x.after) r; lent = lends_on c.args.lent.now c.loop-turn.lent c.read.new.lent c.loop-turn.invariant.1 c.read.ensures.lent }

pub returns-then-is_none : goal.returns-then-is_none
returns-then-is_none c =
    let bs = c.args.bytes.now in
    let s = view c.loop-turn.self c.loop-turn.lent in
    let left : 0 < 15361 - c.loop-turn.turn = omega arith in
    let e : (reading bs s).answer ≡ Ok c.in_ok-read.field-0 = ap (λ x. x.answer) c.read.ensures.equation ∙ c.in_ok-read.was in
    let t : is_none c.in_ok-read.field-0 ≡ true = search rules in
    let r = sym (on_end (15361 - c.loop-turn.turn) bs s _ left e t) ∙ c.loop-turn.invariant.0 in
    record { answer = ap quiet (sym e) ∙ ap (λ x. quiet x.answer) r; after = sym (ap (λ x. x.after) c.read.ensures.equation) ∙ ap (λ x. x.after) r; lent = lends_on c.args.lent.now c.loop-turn.lent c.read.new.lent c.loop-turn.invariant.1 c.read.ensures.lent }

pub loop-turn-preserved : goal.loop-turn-preserved
loop-turn-preserved c =
    let bs = c.args.bytes.now in
    let s = view c.loop-turn.self c.loop-turn.lent in
    let n = 15361 - c.loop-turn.turn in
    let left : 0 < n = omega arith in
    let e : (reading bs s).answer ≡ Ok c.in_ok-read.field-0 = ap (λ x. x.answer) c.read.ensures.equation ∙ c.in_ok-read.was in
    let t : is_none c.in_ok-read.field-0 ≡ false = search rules in
    let m : 15361 - (c.loop-turn.turn + 1) ≡ n - 1 = omega arith in
    (ap (λ k. readings k bs (view c.read.new.self c.read.new.lent)) m ∙ ap (λ x. readings (n - 1) bs x.after) (sym c.read.ensures.equation) ∙ sym (on_more n bs s _ left e t) ∙ c.loop-turn.invariant.0, lends_on c.args.lent.now c.loop-turn.lent c.read.new.lent c.loop-turn.invariant.1 c.read.ensures.lent)

pub returns : goal.returns
returns c =
    let bs = c.args.bytes.now in
    let s = view c.loop-turn.self c.loop-turn.lent in
    let m : 0 ≡ 15361 - c.loop-turn.turn = omega arith in
    let r = sym (on_none bs s) ∙ ap (λ k. readings k bs s) m ∙ c.loop-turn.invariant.0 in
    record { answer = ap (λ x. quiet x.answer) r; after = ap (λ x. x.after) r; lent = c.loop-turn.invariant.1 }
