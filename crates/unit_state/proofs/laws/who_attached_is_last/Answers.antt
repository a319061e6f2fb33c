use Rattle.unit_state.proofs.HistoryLaws.{last_attached}
use Rattle.unit_state.proofs.laws.who_attached_is_last.Goals as goal

pub returns : goal.returns
returns c = last_attached
