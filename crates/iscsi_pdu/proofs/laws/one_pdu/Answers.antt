use Rattle.iscsi_pdu.proofs.Grammar.{one_pdu}
use Rattle.iscsi_pdu.proofs.laws.one_pdu.Goals as goal

pub returns : goal.returns
returns c = one_pdu
