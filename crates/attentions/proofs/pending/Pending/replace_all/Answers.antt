use Rattle.std.proofs.Common.{arith}
use Rattle.attentions.proofs.Slots.{first_set}
use Rattle.attentions.proofs.pending.Pending.replace_all.Goals as goal

pub returns : goal.returns
returns c = first_set _ _ (omega (arith, c.self.invariant.0))
