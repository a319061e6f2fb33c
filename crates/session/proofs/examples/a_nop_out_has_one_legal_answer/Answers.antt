use Rattle.session.proofs.ShortTranscripts.{ping_lawful, ping_is}
use Rattle.session.proofs.examples.a_nop_out_has_one_legal_answer.Goals as goal

pub returns : goal.returns
returns c = record { legal = ping_lawful; no_other = ping_is }
