use Rattle.unit_state.proofs.Told.{ended_gone}
use Rattle.unit_state.proofs.laws.an_ended_session_is_gone.Goals as goal

pub returns : goal.returns
returns c = λ control session. ended_gone control.sessions session
