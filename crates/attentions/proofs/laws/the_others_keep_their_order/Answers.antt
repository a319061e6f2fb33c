use Rattle.attentions.proofs.Repeats.{waits}
use Rattle.attentions.proofs.laws.the_others_keep_their_order.Goals as goal

pub returns-clause-waits : goal.returns-clause-waits
returns-clause-waits c = waits
