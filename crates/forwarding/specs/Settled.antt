-- What becomes of a command at a desk.
use Rattle.std.specs.Prelude.{◌≡◌, IfOk, IfErr, Result}
use Rattle.unit_lock.specs.Calls.{PlacedPass}
use Rattle.unit_lock.specs.declared.machine.Refused.{Refused}
use Rattle.scsi_types.specs.ReplyValue.{ReplyValue}
use Rattle.scsi_types.specs.declared.names.Group.{Group}
use Rattle.unit_control.specs.State.{UnitState}
use Rattle.unit_control.specs.Entry.{Entry}
use Rattle.unit_entries.specs.Devices.{Devices}
use Rattle.forwarding.specs.Served.{Handed, HasAnsweredJob}
use Rattle.forwarding.specs.declared.desk.DeskFault.{DeskFault}
use Rattle.forwarding.specs.declared.desk.DeskFault.TheVariants.{Full, Closed, NoMemory}

-- The desk does not take a command: it is full, or closed. For want of memory no desk refuses to serve.
abbrev pub IsFullOrClosed : DeskFault → Type 0
IsFullOrClosed Full = Unit {0}
IsFullOrClosed Closed = Unit {0}
IsFullOrClosed NoMemory = ⊥

-- A desk has settled a command of a pass: its unit has answered, or the desk, full or closed, has given the pass back as it was.
abbrev pub IsSettled : {B R O : Type 0} → Devices B R O → UnitState → PlacedPass Entry → Handed → PlacedPass Entry
    → Result (Result ReplyValue (Refused Group)) DeskFault → Type 0
IsSettled d s before job after end =
    (after.place ≡ before.place)
    × IfOk end (λ answer. HasAnsweredJob d s job after.pass answer)
    × IfErr end (λ fault. (after ≡ before) × IsFullOrClosed fault)
