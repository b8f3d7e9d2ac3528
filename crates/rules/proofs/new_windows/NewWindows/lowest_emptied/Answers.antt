use Rattle.std.proofs.Common.{◌≡◌, ◌∙◌, ◌<◌, ◌&&◌, not, ltb, is_some, sym, subst, MatchOption, rules}
use Rattle.std.proofs.lemmas.Iterator.{YieldsList-from_slice, YieldsList-from_map}
use Rattle.std.proofs.lemmas.Iterator.Adapters.{option_map_id}
use Rattle.std.proofs.lemmas.Iterator.Consumers.{YieldsList-at, YieldsList-from_filter, min_from_yields_List}
use borrow.Author.Tests.{tests}
use Rattle.bounded.specs.Lists.{items}
use Rattle.rules.specs.Writing.{lowest_emptied}
use Rattle.rules.specs.Made.{made}
use Rattle.rules.proofs.WritingLaws.{lowest_is_least}
use Rattle.rules.proofs.new_windows.NewWindows.lowest_emptied.Goals as goal

pub returns : goal.returns
returns g c =
    let xs = items c.args.self.now.list in
    let least = min_from_yields_List c.map.result _ c.min.ensures.ran (YieldsList-from_map _ (λ x. x.at) (YieldsList-at c.map.ensures.source (YieldsList-from_filter _ (λ x. not (is_some x.new) && ltb x.at c.args.n) (YieldsList-from_slice xs cc) c.filter.ensures.closure (λ x b q k. search (rules, tests) fits 3000))) c.map.ensures.closure (λ x b q k. search (rules, tests))) in
    let low = lowest_emptied c.args.n (made g.W.Window.numbers c.args.self.now) in
    subst (λ o. MatchOption o (low ≡ c.args.n) (λ k. (k < c.args.n) × (low ≡ k))) (sym (sym (option_map_id _) ∙ least)) (lowest_is_least g.W.Window.numbers (λ w. (g.met.W.Window.kinds w).some) c.args.n xs)
