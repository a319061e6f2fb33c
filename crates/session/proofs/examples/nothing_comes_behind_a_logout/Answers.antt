use Rattle.session.proofs.ShortTranscripts.{leave_lawful, nothing_behind}
use Rattle.session.proofs.examples.nothing_comes_behind_a_logout.Goals as goal

pub returns : goal.returns
returns c = record { legal = leave_lawful; last = nothing_behind }
