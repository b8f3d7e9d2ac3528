use Rattle.std.proofs.Common.{ℕ, ◌+◌, Bool, ◌&&◌, ◌||◌, eqb, ltb, List, map, drop, set, sym, ap, ◌∙◌, subst}
use Rattle.std.proofs.Math.Bool.{or-false}
use Rattle.rulebook.specs.Answers.{member}
use Rattle.rules.specs.Writing.{numbers_of, entry, listed}
use Rattle.rules.specs.Made.{made}
use Rattle.bounded.specs.Lists.{items}
use Rattle.rules.proofs.WritingLaws.{Written, written_none, written_more, written_skip, listed_next, near_any, distinct_any, no_new}
use Rattle.rules.proofs.new_windows.NewWindows.put_all.Goals as goal
use Rattle.rules.proofs.new_windows.NewWindows.put_all.Goals.{in-Some+then-put, in-Some+else-put, in_default}

pub loop-entry-init : goal.loop-entry-init
loop-entry-init g c =
    let start = written_none g.W.Window.stands c.args.rows.now (member c.empty-changed.result) (made g.W.Window.numbers c.args.self.now) c.empty-changed.ensures (distinct_any g.W.Window.numbers (items c.args.self.now.list) ∙ c.args.self.now.apart) (near_any g.W.Window.numbers (items c.args.self.now.list) ∙ c.args.self.now.close) c.requires in
    subst (λ xs. Written g.W.Window.stands c.args.rows.now c.args.rows.now (member c.empty-changed.result) (listed g.W.Window.numbers xs) (listed g.W.Window.numbers xs)) (sym c.as_slice-entry-items.ensures) start

pub loop-entry-preserved : goal.loop-entry-preserved
loop-entry-preserved g c =
    let stands = g.W.Window.stands in
    let numbers = g.W.Window.numbers in
    let es = listed numbers c.as_slice-entry-items.result.now in
    let item = c.entry-item.result in
    let rest = drop (c.loop-entry.entry-index + 1) es in
    let inv = subst (Written stands c.args.rows.now c.loop-entry.rows (member c.loop-entry.changed) es) (listed_next numbers c.as_slice-entry-items.result.now c.loop-entry.entry-index item c.loop-entry-test.true c.entry-item.is) c.loop-entry.invariant in
    let after = λ (rows' : List g.row.W-Row.Denot). Written stands c.args.rows.now rows' (member c.match-entry.changed) es rest in
    let more = λ (rows' : List g.row.W-Row.Denot). written_more stands c.args.rows.now c.loop-entry.rows rows' (member c.loop-entry.changed) (member c.match-entry.changed) es rest (entry numbers item) inv in
    let part = λ (j : ℕ) (t : Bool). member c.loop-entry.changed j || (t && (ltb item.at 64 && eqb item.at j)) in
    elim c.match-entry.branch [ in-Some+then-put w ↦ subst after (sym w.rows-is) (more w.put.new.rows w.put.result (w.put.ensures.table ∙ ap (λ o. set (map stands c.loop-entry.rows) item.at (numbers_of numbers o)) (sym w.in-Some.is)) w.put.ensures.differs w.put.ensures.same w.put.ensures.others (λ j. ap (λ s. member s j) w.changed-is ∙ w.add.ensures j ∙ ap (part j) (sym w.if-put.true))) | in-Some+else-put w ↦ subst after (sym w.rows-is) (more w.put.new.rows w.put.result (w.put.ensures.table ∙ ap (λ o. set (map stands c.loop-entry.rows) item.at (numbers_of numbers o)) (sym w.in-Some.is)) w.put.ensures.differs w.put.ensures.same w.put.ensures.others (λ j. ap (λ s. member s j) w.changed-is ∙ sym (or-false (member c.loop-entry.changed j)) ∙ ap (part j) (sym w.if-put.false))) | in_default w ↦ written_skip stands c.args.rows.now c.loop-entry.rows c.match-entry.rows (member c.loop-entry.changed) (member c.match-entry.changed) es rest (entry numbers item) inv (no_new numbers item.new w.in_default.not-Some) w.rows-is (λ j. ap (λ s. member s j) w.changed-is) ]
