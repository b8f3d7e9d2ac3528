use Rattle.std.proofs.Common.{◌≡◌, ◌<◌, true, length, sym, subst, w32, SFits, rules}
use Rattle.std.proofs.lemmas.Int.{to_z-of_z}
use Rattle.sums.specs.Questions.{windows_below, apart, weights_fit, given}
use Rattle.sums.proofs.QuestionLaws.{accepted, some_given, below_64}
use Rattle.sums.proofs.sum.Sum.check.Goals as goal

pub invariant_of-result : goal.invariant_of-result
invariant_of-result c =
    let p = c.args.post in
    let f : SFits w32 c.args.post.bound = search rules in
    let a = accepted p c.args.n c.in_ok-ask.ensures in
    let k = sym c.first_of.ensures in
    let l : length p.terms ≡ 8 = search rules in
    simp to_z-of_z record { some = subst (λ ts. 0 < length ts) k (some_given p l a.terms); near = subst (λ ts. windows_below 64 ts ≡ true) k (below_64 c.args.n (given p) a.windows); different = subst (λ ts. apart ts ≡ true) k a.different; weights = subst (λ ts. weights_fit ts ≡ true) k a.weights; bounded = a.bounded }
