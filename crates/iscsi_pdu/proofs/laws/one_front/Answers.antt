use Rattle.iscsi_pdu.proofs.Grammar.{one_front}
use Rattle.iscsi_pdu.proofs.laws.one_front.Goals as goal

pub returns : goal.returns
returns c = one_front
