use Rattle.session.proofs.ShortTranscripts.{read_lawful, read_is, not_unanswered}
use Rattle.session.proofs.examples.a_read_has_one_legal_answer.Goals as goal

pub returns : goal.returns
returns c = record { legal = read_lawful; no_other = read_is; answered = not_unanswered }
