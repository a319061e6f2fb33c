use Rattle.std.proofs.Common.{refl}
use Rattle.unit_state.proofs.laws.a_failed_open_changes_nothing.Goals as goal

pub returns-clause-control : goal.returns-clause-control
returns-clause-control c = λ control session serial by list_length bytes none. rw none refl

pub returns-clause-reply : goal.returns-clause-reply
returns-clause-reply c = λ s session serial by list_length bytes none. rw none refl
