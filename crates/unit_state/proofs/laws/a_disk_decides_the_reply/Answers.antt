use Rattle.unit_state.proofs.HistoryLaws.{decided}
use Rattle.unit_state.proofs.laws.a_disk_decides_the_reply.Goals as goal

pub returns : goal.returns
returns c = decided
