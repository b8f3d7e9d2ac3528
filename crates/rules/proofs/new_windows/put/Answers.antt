use Rattle.std.proofs.Common.{◌≡◌, true, false, map, set, sym, ap, ◌∙◌, arith}
use Rattle.std.proofs.lemmas.List.{map-set}
use Rattle.windows.specs.Sets.{same_set}
use Rattle.rules.proofs.WritingLaws.{same_window, put_same, put_differs, none_differs}
use Rattle.rules.proofs.new_windows.put.Goals as goal
use Rattle.rules.proofs.new_windows.put.Goals.{in-Some+else-alike, in_default}

pub returns-then-alike-clause-table : goal.returns-then-alike-clause-table
returns-then-alike-clause-table g c =
    let alike : same_set (g.W.Window.stands c.index-rows-at.result) (g.W.Window.numbers c.args.new.now) ≡ true = sym (ap (λ s. same_set s (g.W.Window.numbers c.args.new.now)) c.in-Some.ensures) ∙ sym c.if-alike.ensures in
    put_same g.W.Window.stands c.args.rows.now c.args.at c.index-rows-at.result (omega arith) c.index-rows-at.is _ alike

pub returns-then-alike-clause-differs : goal.returns-then-alike-clause-differs
returns-then-alike-clause-differs g c = sym (same_window (map g.W.Window.stands c.args.rows.now) c.args.at)

pub returns-clause-table : goal.returns-clause-table
returns-clause-table g c = map-set g.W.Window.stands c.args.rows.now c.args.at c.row.result ∙ ap (set (map g.W.Window.stands c.args.rows.now) c.args.at) c.row.ensures

pub returns-clause-differs : goal.returns-clause-differs
returns-clause-differs g c =
    let new = g.W.Window.numbers c.args.new.now in
    let other : same_set (g.W.Window.stands c.index-rows-at.result) (g.W.Window.numbers c.args.new.now) ≡ false = elim c.match-from_row.branch [ in-Some+else-alike w ↦ sym (ap (λ s. same_set s (g.W.Window.numbers c.args.new.now)) w.in-Some.ensures) ∙ sym w.alike.ensures ∙ w.if-alike.false | in_default w ↦ ap (λ s. same_set s (g.W.Window.numbers c.args.new.now)) w.in_default.ensures ∙ none_differs _ (g.met.W.Window.kinds c.args.new.now).some ] in
    put_differs g.W.Window.stands c.args.rows.now c.args.at c.index-rows-at.result (omega arith) c.index-rows-at.is c.row.result new c.row.ensures other
