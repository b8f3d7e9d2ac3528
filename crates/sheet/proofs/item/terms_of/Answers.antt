use Rattle.std.proofs.Common.{◌≡◌, ◌*◌, ◌/◌, ◌<◌, ◌≤◌, [], length, drop, get_or, set, sym, refl, ap, ◌∙◌, arith, length-drop, length-set, w32, SFits, rules}
use Rattle.std.proofs.lemmas.List.{set_past}
use Rattle.sheet.specs.Items.{placed}
use Rattle.sheet.proofs.TermLaws.{first, placed_more, term_is, terms_short, terms_count, chunk_at, first_take}
use Rattle.sheet.proofs.item.terms_of.Goals as goal
use Rattle.sheet.proofs.item.terms_of.Goals.{then-n-lt-MOST_TERMS, else-n-lt-MOST_TERMS}

pub loop-n-preserved : goal.loop-n-preserved
loop-n-preserved c =
    let p = c.args.payload.now in
    let n = c.loop-n.n in
    let s = drop (n * 5) p in
    let inv = c.loop-n.invariant in
    let below : n < length p / 5 = omega (arith, c.loop-n-test.true, c.as_chunks.ensures.front_len) in
    let left = length-drop (n * 5) p in
    let long : 5 ≤ length s = omega arith in
    let part = ap (λ l. get_or l n []) c.as_chunks.ensures.front ∙ chunk_at (length p / 5) n p below in
    let is = ap first part ∙ first_take s long in
    let written : c.if-n-lt-MOST_TERMS.out ≡ set c.loop-n.out n (first s) = elim c.if-n-lt-MOST_TERMS.branch [ then-n-lt-MOST_TERMS w ↦ (let fits : SFits w32 w.from_le_bytes.result = search rules in w.out-is ∙ ap (set c.loop-n.out n) (term_is (get_or c.as_chunks.result.0.now n []) w.from_le_bytes.result _ fits w.from_le_bytes.ensures refl ∙ is)) | else-n-lt-MOST_TERMS w ↦ w.out-is ∙ sym (set_past c.loop-n.out n (first s) (omega arith)) ] in
    (placed_more c.loop-n.out c.if-n-lt-MOST_TERMS.out n p _ long written inv.0, ap length written ∙ length-set _ _ _ ∙ inv.1)

pub returns : goal.returns
returns c =
    let p = c.args.payload.now in
    let n = c.loop-n.n in
    let s = drop (n * 5) p in
    let left = length-drop (n * 5) p in
    let ended : n ≡ length p / 5 = omega (arith, c.as_chunks.ensures.front_len) in
    let short : length s < 5 = omega arith in
    record { items = ap (placed c.loop-n.out n) (sym (terms_short s short)) ∙ c.loop-n.invariant.0; count = c.as_chunks.ensures.front_len ∙ sym (terms_count p) }
