use Rattle.iscsi_pdu.proofs.Grammar.{one_spelling}
use Rattle.iscsi_pdu.proofs.laws.one_spelling.Goals as goal

pub returns : goal.returns
returns c = one_spelling
