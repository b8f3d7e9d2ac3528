use Rattle.std.proofs.Common.{sym, ◌∙◌}
use Rattle.std.proofs.lemmas.Iterator.{YieldsList-from_slice}
use Rattle.std.proofs.lemmas.Iterator.Adapters.{option_map_id}
use Rattle.std.proofs.lemmas.Iterator.Consumers.{YieldsList-from_copied, min_from_yields_List}
use Rattle.policies.proofs.WaitingSteps.{least}
use Rattle.policies.proofs.choice.LowestChoice.next_of.Goals as goal

pub returns : goal.returns
returns c = sym (option_map_id _) ∙ min_from_yields_List c.copied.result _ c.min.ensures.ran (YieldsList-from_copied (YieldsList-from_slice c.args.rules.now cc)) ∙ least c.args.rules.now
