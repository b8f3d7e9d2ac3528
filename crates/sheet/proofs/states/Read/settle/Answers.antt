use Rattle.sheet.proofs.SettledLaws.{mapped_untouched}
use Rattle.sheet.proofs.states.Read.settle.Goals as goal

pub returns-clause-rows : goal.returns-clause-rows
returns-clause-rows c = mapped_untouched c.settle_front.result c.map_err-2.result c.args.lent.now.rows.now c.settle_front.new.rows c.map_err-2.ensures.variant c.settle_front.ensures.rows
