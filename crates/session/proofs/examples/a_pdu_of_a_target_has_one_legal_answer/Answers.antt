use Rattle.session.proofs.ShortTranscripts.{reject_lawful, reject_is}
use Rattle.session.proofs.examples.a_pdu_of_a_target_has_one_legal_answer.Goals as goal

pub returns : goal.returns
returns c = record { legal = reject_lawful; no_other = reject_is }
