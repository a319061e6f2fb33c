use Rattle.session_rules.proofs.Following.{answered_once, unaccepted, command_once}
use Rattle.session_rules.proofs.laws.no_command_is_answered_twice.Goals as goal

pub returns : goal.returns
returns c = record { once = answered_once; accepted = unaccepted; command = command_once }
