use Rattle.std.proofs.Common.{refl}
use Rattle.unit_control.specs.Reserve.{effect_by}
use Rattle.unit_state.proofs.Told.{own_after}
use Rattle.unit_state.proofs.laws.a_sender_hears_nothing_of_its_own.Goals as goal

pub returns : goal.returns
returns c = λ control session asked. own_after c.the_sender_is_not_told.ensures control session asked
    (effect_by control session asked) refl
