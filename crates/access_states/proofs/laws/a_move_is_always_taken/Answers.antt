use Rattle.std.proofs.Common.{refl}
use Rattle.scsi_types.specs.declared.names.Group.TheVariants.{One, Two}
use Rattle.access_states.specs.Change.{access_after}
use Rattle.access_states.specs.declared.state.AccessState.TheVariants.{ActiveNonOptimized, Unavailable}
use Rattle.access_states.proofs.Taken.{moved_beside, moved_to}
use Rattle.access_states.proofs.laws.a_move_is_always_taken.Goals as goal

pub returns-clause-to_one : goal.returns-clause-to_one
unfolding access_after
returns-clause-to_one c = λ cause old. moved_to cause old One

pub returns-clause-to_two : goal.returns-clause-to_two
unfolding access_after
returns-clause-to_two c = λ cause old. moved_to cause old Two

pub returns-clause-one_down : goal.returns-clause-one_down
unfolding access_after
returns-clause-one_down c = λ cause old. moved_beside cause old Two Unavailable refl

pub returns-clause-two_down : goal.returns-clause-two_down
unfolding access_after
returns-clause-two_down c = λ cause old. moved_beside cause old One Unavailable refl

pub returns-clause-one_up : goal.returns-clause-one_up
unfolding access_after
returns-clause-one_up c = λ cause old. moved_beside cause old One ActiveNonOptimized refl

pub returns-clause-two_up : goal.returns-clause-two_up
unfolding access_after
returns-clause-two_up c = λ cause old. moved_beside cause old Two ActiveNonOptimized refl
