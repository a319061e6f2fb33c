use Rattle.std.proofs.Common.{◌≡◌, drop}
use Rattle.registrants.specs.Nexus.{through}
use Rattle.reservations.proofs.Hearing.{first_heard}
use Rattle.reservations.proofs.table.Table.told.Given as goal

abbrev pub invariant-loop-x : goal.invariant-loop-x
invariant-loop-x l =
    first_heard (through l.port l.group) l.telling l.x-items
    ≡ first_heard (through l.port l.group) l.telling (drop l.x-index l.x-items)
