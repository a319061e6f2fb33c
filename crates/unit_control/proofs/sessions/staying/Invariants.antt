use Rattle.std.proofs.Common.{◌≡◌, take, length}
use Rattle.unit_control.specs.Sessions.{without}
use Rattle.unit_control.proofs.sessions.staying.Given as goal

abbrev pub invariant-loop-attached : goal.invariant-loop-attached
invariant-loop-attached l =
    l.stay ≡ length (without (record { port = l.port; group = l.group }) (take l.attached-index l.sessions))
