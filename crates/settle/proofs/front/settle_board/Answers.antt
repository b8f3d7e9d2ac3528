use Rattle.std.proofs.Common.{◌≡◌, ◌+◌, ◌++◌, List, map, length, drop, refl, sym, ap, ◌∙◌, arith, length-append, length-drop}
use Rattle.std.proofs.lemmas.List.{length-map, length-take-le}
use Rattle.policies.specs.Policies.{waiting_of}
use Rattle.settle.proofs.SettledLaws.{accepted_store, ran_refused, settled_kept, given_stored, made_refusal}
use Rattle.settle.proofs.front.settle_board.Goals as goal

pub slice_bounds-copy_from_slice-end-2 : goal.slice_bounds-copy_from_slice-end-2
slice_bounds-copy_from_slice-end-2 g c =
    let board = c.args.board.now in
    let room = accepted_store (g.B.RuleBook.rules c.args.book) (waiting_of c.new.result) (map g.B.Kind.Window.stands board.rows.now) (length board.store.now) c.make-plan.result.1 _ c.make-plan.ensures.equation c.in_default.is in
    sym (length-take-le (length board.rows.now) board.store.now (omega (arith, room, length-map board.rows.now g.B.Kind.Window.stands)))

pub copy_from_slice-requires : goal.copy_from_slice-requires
copy_from_slice-requires g c =
    let board = c.args.board.now in
    let room = accepted_store (g.B.RuleBook.rules c.args.book) (waiting_of c.new.result) (map g.B.Kind.Window.stands board.rows.now) (length board.store.now) c.make-plan.result.1 _ c.make-plan.ensures.equation c.in_default.is in
    length-take-le (length board.rows.now) board.store.now (omega (arith, room, length-map board.rows.now g.B.Kind.Window.stands))

pub returns-in-Some : goal.returns-in-Some
returns-in-Some g c =
    let board = c.args.board.now in
    record { equation = ran_refused (g.B.RuleBook.rules c.args.book) _ (map g.B.Kind.Window.stands board.rows.now) (length board.store.now) c.make-plan.result.1 c.in-Some.refused _ c.make-plan.ensures.equation c.in-Some.is; rows = refl; store = refl; lent = (refl, refl) }

pub returns : goal.returns
returns g c =
    let stands = g.B.Kind.Window.stands in
    let rules = g.B.RuleBook.rules c.args.book in
    let rows = c.args.board.now.rows.now in
    let store = c.args.board.now.store.now in
    let plan = c.make-plan.result.0 in
    let room = accepted_store rules (waiting_of c.new.result) (map stands rows) (length store) c.make-plan.result.1 _ c.make-plan.ensures.equation c.in_default.is in
    let front = c.copy_from_slice.new.self in
    let copied : front ≡ rows = c.copy_from_slice.ensures.after in
    let long : length (front ++ drop (length rows) store) ≡ length store = omega (arith, room, length-map rows stands, ap length copied, length-append front (drop (length rows) store), length-drop (length rows) store) in
    let from : length rows ≡ 0 + length rows = omega arith in
    let last = c.settle.ensures in
    let equation = settled_kept stands rules (g.B.RuleBook.rules plan.book) (waiting_of c.new.result) (waiting_of plan.policy) plan.status rows store (front ++ drop (length rows) store) c.make-plan.result.1 c.settle.result _ c.make-plan.ensures.equation c.in_default.is long last.equation in
    record {
      equation = equation;
      rows = last.rows;
      store = last.store ∙ ap (λ (xs : List g.row.B-Kind-Row.Denot). xs ++ drop (length rows) store) copied ∙ ap (λ k. rows ++ drop k store) from ∙ sym (given_stored rules (map stands rows) _ (length store) c.settle.result store rows (sym (made_refusal rules (waiting_of c.new.result) (map stands rows) (length store) c.make-plan.result.1 _ c.make-plan.ensures.equation ∙ c.in_default.is)) equation);
      lent = last.lent;
    }
