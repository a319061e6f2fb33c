use Rattle.unit_state.proofs.SerialLaws.{numbered}
use Rattle.unit_state.proofs.laws.serials_count_commands.Goals as goal

pub returns : goal.returns
returns c = numbered
