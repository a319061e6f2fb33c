use Rattle.iscsi_pdu.proofs.Grammar.{spelled}
use Rattle.iscsi_pdu.proofs.laws.spelled.Goals as goal

pub returns : goal.returns
returns c = spelled
