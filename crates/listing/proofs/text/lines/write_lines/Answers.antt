use Rattle.std.proofs.Common.{ap, ◌∙◌, arith}
use Rattle.std.specs.Slice.Iter.{iter_rest}
use Rattle.listing.specs.Lines.{lines}
use Rattle.listing.proofs.Steps.{left_first, counted, left_more, left_none}
use Rattle.listing.proofs.text.lines.write_lines.Goals as goal

pub loop-i-init : goal.loop-i-init
loop-i-init g c =
    let e = c.enumerate-i-items.ensures in
    let t = c.take.ensures in
    let z = c.zip.ensures in
    let f = left_first 64 c.args.rows.now c.args.given.now c.into_iter-i-iterator.result _ _ c.zip.result c.into_iter-i-iterator.ensures.into_iter_gives e.source e.count t.source t.count (ap iter_rest z.first ∙ c.iter.ensures.rest) z.second.0 in
    (omega arith, f.2 g.R.Shown.look c.args.text.now.bytes, omega arith)

pub write_line-requires : goal.write_line-requires
write_line-requires g c =
    let n = counted c.loop-i.i-iterator c.next.new.self _ _ _ _ c.in-Some.is c.next.ensures.steps in
    omega arith

pub loop-i-preserved : goal.loop-i-preserved
loop-i-preserved g c =
    let s = c.loop-i.i-iterator in
    let t = c.next.new.self in
    let n = counted s t _ _ _ _ c.in-Some.is c.next.ensures.steps in
    let all = lines g.R.Shown.look c.args.text.now.bytes 64 0 c.args.rows.now c.args.given.now in
    let more = left_more s t _ g.R.Shown.look _ _ _ _ _ c.in-Some.is c.next.ensures.steps c.write_line.ensures.bytes in
    (omega arith, ◌∙◌ {c = all} more c.loop-i.invariant.1, omega arith)

pub returns : goal.returns
returns g c = left_none c.loop-i.i-iterator c.next.new.self _ g.R.Shown.look _ c.in-None.is c.next.ensures.steps ∙ c.loop-i.invariant.1
