use Rattle.std.proofs.Common.{◌≡◌, ◌++◌, map, length, take, drop, sym, ap, ◌∙◌, arith, length-take}
use Rattle.settle.specs.Settled.{rows_ran, ran_to, given_to}
use Rattle.plan.proofs.ProperSets.{proper_sets}
use Rattle.plan.proofs.BoardLaws.{all_kinds}
use Rattle.settle.proofs.SaysLaws.{ran_says}
use Rattle.settle.proofs.SettledLaws.{front_is, front_new, front_others, front_untouched}
use Rattle.settle.proofs.front.settle_front.Goals as goal

pub returns : goal.returns
returns g c =
    let rows = c.args.rows.now in
    let n = c.args.n in
    let end = c.min-end.result in
    let new = c.settle_slices.new.rows in
    let last = c.settle_slices.ensures in
    let least = c.min-end.ensures in
    let part = front_is rows n end least in
    let long : length new ≡ end = omega (arith, c.settle_slices.auto.rows, length-take (end) rows) in
    let stands = g.B.Kind.Window.stands in
    let rules = g.B.RuleBook.rules c.args.book in
    let equation = ap (λ l. rows_ran g.B.Kind.Window.stands (g.B.RuleBook.rules c.args.book) l c.args.store.now) (sym part) ∙ last.equation ∙ ap (ran_to g.B.Kind.Window.stands c.settle_slices.result) (sym (front_new rows new n end least long)) in
    record {
      equation = equation;
      others = front_others rows new n end least long;
      rows = front_untouched c.settle_slices.result rows new (end) last.rows;
      says = ran_says g.B.RuleBook.sets (proper_sets g.B.Kind.Window.kind g.met.B.Kind.Window.proper g.B.RuleBook.sets g.met.B.RuleBook.tied) rules (map stands (take n rows)) (length c.args.store.now) c.settle_slices.result (map stands (take n (new ++ drop (end) rows))) (g.met.B.RuleBook.few c.args.book) (g.met.B.RuleBook.lawful c.args.book) (all_kinds stands g.B.RuleBook.sets (take n rows) (λ row some. (g.met.B.RuleBook.tied (stands row)).1 (g.met.B.Kind.Window.rows row some))) equation;
      store = last.store ∙ ap (given_to c.settle_slices.result c.args.store.now) part;
    }
