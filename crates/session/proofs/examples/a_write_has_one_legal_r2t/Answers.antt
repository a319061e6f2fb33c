use Rattle.session.proofs.ShortTranscripts.{write_lawful, write_is, not_turned_away}
use Rattle.session.proofs.examples.a_write_has_one_legal_r2t.Goals as goal

pub returns : goal.returns
returns c = record { legal = write_lawful; no_other = write_is; called = not_turned_away }
