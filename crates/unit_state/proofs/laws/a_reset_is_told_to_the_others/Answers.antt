use Rattle.unit_state.proofs.Told.{reset_own, reset_other}
use Rattle.unit_state.proofs.laws.a_reset_is_told_to_the_others.Goals as goal

pub returns-clause-own : goal.returns-clause-own
returns-clause-own c = λ control session. reset_own control.sessions session

pub returns-clause-others : goal.returns-clause-others
returns-clause-others c = λ control session other apart there. reset_other control.sessions session other apart there
