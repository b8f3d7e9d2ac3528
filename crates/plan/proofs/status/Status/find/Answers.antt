use Rattle.std.proofs.Common.{◌≡◌, ℕ, length, Some, None, Option, sym, refl, rules}
use Rattle.bounded.specs.Lists.{items}
use Rattle.plan.specs.Views.{found}
use Rattle.plan.proofs.MarkLaws.{found_none, found_some}
use Rattle.plan.proofs.status.Status.find.Goals as goal

pub returns : goal.returns
returns c = go c.rposition.result refl
  where
    go : (r : Option ℕ) → c.rposition.result ≡ r → r ≡ found (items c.args.self.now.marks) c.args.number (length (items c.args.self.now.marks))
    go None e = sym (found_none (items c.args.self.now.marks) c.args.number (length (items c.args.self.now.marks)) (search rules))
    go (Some i) e = sym (found_some (items c.args.self.now.marks) c.args.number (length (items c.args.self.now.marks)) i (search rules) (search rules) (search rules))
