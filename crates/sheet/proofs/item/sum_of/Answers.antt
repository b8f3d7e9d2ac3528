use Rattle.std.proofs.Common.{◌≤◌, length, replicate, pos, ap, ◌∙◌, w32, SFits, rules}
use Rattle.std.proofs.lemmas.Int.{to_z-of_z}
use Rattle.sheet.specs.Items.{terms, placed}
use Rattle.sheet.proofs.TermLaws.{from_is, sum_is}
use Rattle.sheet.proofs.item.sum_of.Goals as goal

pub returns : goal.returns
returns c =
    let p = c.args.payload.now in
    let z = c.from_le_bytes.result in
    let long : 4 ≤ length p = search rules in
    let fits : SFits w32 z = search rules in
    sum_is p _ _ _ long (to_z-of_z w32 z fits ∙ c.from_le_bytes.ensures) (c.terms_of-count.ensures.items ∙ ap (λ l. placed (replicate 8 (record { window = 0; weight = pos 0 })) 0 (terms l)) (from_is p 4)) (c.terms_of-count.ensures.count ∙ ap (λ l. length (terms l)) (from_is p 4))
