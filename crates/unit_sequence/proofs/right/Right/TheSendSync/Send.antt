use denote.Param.Send.{IsSend}
use types.Keyed.{entry_keyless}
use Rattle.logbook.specs.Kept.{halved}
use Rattle.unit_sequence.specs.contracts.right.Right.{the_row}

pub send : IsSend the_row
send = record { owned = λ d vs. ((λ vss. (tt, ((λ uss. (tt, tt)), tt))), entry_keyless halved d.name 0 _); leaving = λ k f vs. tt }
