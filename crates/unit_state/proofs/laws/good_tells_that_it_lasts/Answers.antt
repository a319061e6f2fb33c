use Rattle.scsi_types.specs.declared.command.Command.TheVariants.{PersistentReserveOut}
use Rattle.std.proofs.Common.{Ok}
use Rattle.unit_control.specs.Refusal.{refusal, request}
use Rattle.unit_state.proofs.Lasting.{good_lasts}
use Rattle.unit_state.proofs.laws.good_tells_that_it_lasts.Goals as goal

pub returns : goal.returns
returns c = λ s session serial by action scope kind list_length bytes choice good.
    good_lasts s.control session action scope kind list_length bytes choice s.blocks
    (refusal s.control (request session (Ok (PersistentReserveOut action scope kind list_length)) bytes)) good
