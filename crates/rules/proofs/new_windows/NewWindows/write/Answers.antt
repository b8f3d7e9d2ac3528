use Rattle.std.proofs.Common.{◌≡◌, map, length, sym, ap, ◌∙◌, arith}
use Rattle.std.proofs.lemmas.List.{length-map}
use Rattle.bounded.specs.Lists.{items}
use Rattle.rules.specs.Writing.{lowest_emptied}
use Rattle.rules.specs.Made.{made}
use Rattle.rules.proofs.WritingLaws.{tells_none, tells_lost, tells_all, distinct_any}
use Rattle.rules.proofs.new_windows.NewWindows.write.Goals as goal

pub returns-then-not-all_windows-clause-equation : goal.returns-then-not-all_windows-clause-equation
returns-then-not-all_windows-clause-equation g c = tells_none (map g.W.Window.stands c.args.rows.now) (made g.W.Window.numbers c.args.self.now) c.empty.result (sym c.if-not-all_windows.ensures) c.empty.ensures

pub returns-in-Some-clause-equation : goal.returns-in-Some-clause-equation
returns-in-Some-clause-equation g c =
    let rows = c.args.rows.now in
    let es = made g.W.Window.numbers c.args.self.now in
    let long = length-map rows g.W.Window.stands in
    tells_lost (map g.W.Window.stands rows) es c.in-Some.window (sym c.if-not-all_windows.ensures) (distinct_any g.W.Window.numbers (items c.args.self.now.list) ∙ c.args.self.now.apart) (sym (ap (λ n. lowest_emptied n es) long ∙ c.in-Some.ensures.1)) (omega (arith, c.in-Some.ensures.0))

pub returns-in-None-clause-equation : goal.returns-in-None-clause-equation
returns-in-None-clause-equation g c =
    let rows = c.args.rows.now in
    let es = made g.W.Window.numbers c.args.self.now in
    let long = length-map rows g.W.Window.stands in
    let low : lowest_emptied (length (map g.W.Window.stands rows)) es ≡ length rows = ap (λ n. lowest_emptied n es) long ∙ c.in-None.ensures in
    tells_all (map g.W.Window.stands rows) (map g.W.Window.stands c.put_all.new.rows) es c.put_all.result (sym c.if-not-all_windows.ensures) (distinct_any g.W.Window.numbers (items c.args.self.now.list) ∙ c.args.self.now.apart) (omega arith) c.put_all.ensures.table c.put_all.ensures.changed
