use Rattle.unit_control.specs.Groups.{is_any_changed}
use Rattle.unit_state.proofs.Told.{change_own, change_other, change_moved}
use Rattle.unit_state.proofs.laws.a_change_is_told_to_the_others.Goals as goal

pub returns-clause-own : goal.returns-clause-own
returns-clause-own c = λ control session new. change_own (is_any_changed control.access new) control.sessions session

pub returns-clause-others : goal.returns-clause-others
returns-clause-others c =
    λ control session other new apart changed there. change_other
    (is_any_changed control.access new) control.sessions session other apart changed there

pub returns-clause-moved : goal.returns-clause-moved
returns-clause-moved c =
    λ control other new changed there. change_moved (is_any_changed control.access new) control.sessions other changed there
