use Rattle.std.proofs.Common.{pos, negsuc, neg_ℤ, sym, refl, ◌∙◌, ap₂, arith, w64, to_z, of_z}
use Rattle.std.proofs.lemmas.Int.{ints, clamps}
use Rattle.windows.specs.Sets.{between}
use Rattle.products.proofs.ProductCode.{weak_at, sizes, weak_free, weak_wide, weak_right, weak_left, weak_none, same_quotients, among_left}
use Rattle.products.proofs.product.narrow.weak_quotients.Goals as goal

pub returns-then-zero_in_both : goal.returns-then-zero_in_both
returns-then-zero_in_both c v l h = weak_at _ _ _ _ _ _ _ _ v c.from-dividend.ensures c.from-divisor.ensures ∙ weak_free _ _ _ _ v (negsuc 9223372036854775807) (pos 9223372036854775807) c.if-zero_in_both.ensures (omega (arith, ints, l)) (omega (arith, ints, h))

pub returns-then-around_zero : goal.returns-then-around_zero
returns-then-around_zero c v l h =
    let e = c.from-dividend.ensures in
    let f = c.from-divisor.ensures in
    let s = c.args.u.now.stands in
    let t = c.args.t.now.stands in
    let k = sizes c.from-dividend.result.from c.from-dividend.result.to _ _ c.max-e.result (omega (arith, ints), omega (arith, ints)) (omega (arith, ints), omega (arith, ints)) c.abs.ensures.value c.abs-then-around_zero.ensures.value c.max-e.ensures.value in
    let b = k.1 in
    weak_at _ _ _ _ _ _ _ _ v e f ∙ weak_wide _ _ _ _ v (omega (arith, ints)) c.if-zero_in_both.ensures c.max-e.result c.if-around_zero.ensures k.0 ∙ ap₂ (λ x y. between x y v) (omega (arith, ints, clamps)) (omega (arith, ints, clamps))

pub returns-then-divisor-gt0 : goal.returns-then-divisor-gt0
returns-then-divisor-gt0 c v l h =
    let e = c.from-dividend.ensures in
    let f = c.from-divisor.ensures in
    let s = c.args.t.now.stands in
    let k = c.max.ensures.value in
    let g = c.if-divisor-gt0.true in
    let u = c.from-dividend.result in
    let t = c.from-divisor.result in
    let m = to_z w64 (of_z w64 c.max.result) in
    weak_at _ _ _ _ _ _ _ _ v e f ∙ weak_right u.from u.to t.from t.to v (omega (arith, ints)) c.if-zero_in_both.ensures m c.if-around_zero.ensures (omega (arith, ints, clamps)) (omega (arith, ints, clamps)) ∙ same_quotients u.from u.to m t.to u.from u.to m (to_z w64 (of_z w64 t.to)) v refl refl refl (omega (arith, ints, clamps)) ∙ c.between_quotients.ensures v

pub negated-requires-then-divisor-lt0 : goal.negated-requires-then-divisor-lt0
negated-requires-then-divisor-lt0 c =
    let f = c.from-divisor.ensures in
    let t = c.args.t.now.stands in
    let m = c.min.ensures.value in
    ((omega (arith, ints, clamps), omega (arith, ints, clamps)), (omega (arith, ints, clamps), omega (arith, ints, clamps)))

pub between_quotients-requires-then-divisor-lt0-clause-dividend : goal.between_quotients-requires-then-divisor-lt0-clause-dividend
between_quotients-requires-then-divisor-lt0-clause-dividend c =
    let e = c.from-dividend.ensures in
    let n = c.negated.ensures in
    let s = c.args.u.now.stands in
    ((omega (arith, ints, clamps), omega (arith, ints, clamps)), ((omega (arith, ints, clamps), omega (arith, ints, clamps)), omega (arith, ints, clamps)))

pub returns-then-divisor-lt0 : goal.returns-then-divisor-lt0
returns-then-divisor-lt0 c v l h =
    let e = c.from-dividend.ensures in
    let f = c.from-divisor.ensures in
    let r = c.args.u.now.stands in
    let s = c.args.t.now.stands in
    let k = c.min.ensures.value in
    let n = c.negated.ensures in
    let o = c.negated-then-divisor-lt0.ensures in
    let g = c.if-divisor-gt0.false in
    let j = c.if-divisor-lt0.true in
    let u = c.from-dividend.result in
    let t = c.from-divisor.result in
    let m = to_z w64 (of_z w64 c.min.result) in
    weak_at _ _ _ _ _ _ _ _ v e f ∙ weak_left u.from u.to t.from t.to v (omega (arith, ints)) c.if-zero_in_both.ensures m (omega (arith, ints, clamps)) (omega (arith, ints, clamps)) (omega (arith, ints, clamps)) ∙ among_left u.from u.to t.from m v (omega (arith, ints, clamps)) (omega (arith, ints, clamps)) (omega (arith, ints, clamps)) ∙ same_quotients _ _ _ (neg_ℤ t.from) _ _ _ c.negated-then-divisor-lt0.result.to v (sym n.0) (sym n.1) (sym o.0) (omega (arith, ints, clamps)) ∙ c.between_quotients-then-divisor-lt0.ensures v

pub returns : goal.returns
returns c v l h =
    let e = c.from-dividend.ensures in
    let f = c.from-divisor.ensures in
    let t = c.args.t.now.stands in
    let g = c.if-divisor-gt0.false in
    let j = c.if-divisor-lt0.false in
    weak_at _ _ _ _ _ _ _ _ v e f ∙ weak_none _ _ _ _ v (omega (arith, ints)) c.if-zero_in_both.ensures (omega (arith, ints, clamps)) (omega (arith, ints, clamps))
