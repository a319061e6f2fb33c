use Rattle.std.proofs.Common.{◌≡◌, ◌++◌, take, drop, map}
use Rattle.reservations.specs.Notice.{tellings}
use Rattle.unit_control.specs.Reserve.{hear}
use Rattle.unit_control.proofs.sessions.hear_all.Given as goal

abbrev pub invariant-loop-attached : goal.invariant-loop-attached
invariant-loop-attached l =
    l.attached-items ≡ map (hear (tellings l.telling l.found.registrants)) (take l.attached-index l.initial.attached-items)
    ++ drop l.attached-index l.initial.attached-items
