use Rattle.unit_control.specs.Refusal.{request}
use Rattle.unit_state.proofs.Told.{taken_once}
use Rattle.unit_state.proofs.laws.a_serial_is_taken_once.Goals as goal

pub returns : goal.returns
returns c =
    λ claims s session serial by asked bytes choice possible taken. taken_once s.control
    (request session asked bytes) choice serial possible.next taken.next
