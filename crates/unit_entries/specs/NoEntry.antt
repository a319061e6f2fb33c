-- Why a call adds no entry to the history: as the history shows it, or since there was no memory, or an open failed.
use Rattle.std.specs.Prelude.{◌≡◌, ◌≤◌, ◌⊎◌, ℕ, true, List, None, Result, Err}
use Rattle.access_states.specs.AccessMap.{owner_of}
use Rattle.scsi_types.specs.Nexus.{Nexus}
use Rattle.scsi_types.specs.declared.names.Group.{Group}
use Rattle.scsi_types.specs.declared.command.Command.{Command as ScsiCommand}
use Rattle.scsi_types.specs.declared.command.CdbFault.{CdbFault}
use Rattle.unit_control.specs.Limits.{last_length}
use Rattle.unit_state.specs.declared.unit.MoveFault.{MoveFault}
use Rattle.unit_state.specs.declared.unit.MoveFault.TheVariants as faults
use Rattle.unit_control.specs.State.{ControlValue, UnitState}
use Rattle.unit_control.specs.Sessions.{session_of}
use Rattle.unit_control.specs.Groups.{is_moved_by, move_by}
use Rattle.unit_control.specs.Refusal.{request}
use Rattle.unit_state.specs.Step.{TakesMemory}
use Rattle.unit_control.specs.Entry.{Entry, HasRoom}
use Rattle.unit_state.specs.History.{state_after}

-- an attach adds none: behind the history there is no room for a session of this nexus
abbrev pub IsFull : UnitState → List Entry → Nexus → Type 0
IsFull s history nexus = HasRoom (state_after s history).control nexus → ⊥

-- behind the history this session is not attached
abbrev pub IsUnattached : UnitState → List Entry → ℕ → Type 0
IsUnattached s history session = session_of (state_after s history).control.sessions session ≡ None

-- no call of this session adds one: behind the history it is not attached, or the history has its last length
abbrev pub IsSessionGone : UnitState → List Entry → ℕ → Type 0
IsSessionGone s history session = IsUnattached s history session ⊎ (last_length ≤ (state_after s history).control.count)

-- behind the history this group owns the unit
abbrev pub IsOwner : UnitState → List Entry → Group → Type 0
IsOwner s history group = group ≡ owner_of (state_after s history).control.access

-- Behind the history this command takes memory. Where there is none, it is answered BUSY and adds no entry.
abbrev pub TakesMemoryBehind : UnitState → List Entry → ℕ → Result ScsiCommand CdbFault → List ℕ → Type 0
TakesMemoryBehind s history session asked bytes = TakesMemory (state_after s history).control (request session asked bytes)

-- A unit with this control does not move as the list says, for this cause: its history has its last length; the list is one that the
-- access states cannot follow; or the list changes the owner, and the blocks could not be opened for the new one.
abbrev pub StaysFor : ControlValue → List ℕ → MoveFault → Type 0
StaysFor c list faults.Gone = last_length ≤ c.count
StaysFor c list (faults.List fault) = move_by c list ≡ Err fault
StaysFor c list faults.OpenFailed = is_moved_by c.access (move_by c list) ≡ true

-- so does the unit behind the history
abbrev pub StaysBehind : UnitState → List Entry → List ℕ → MoveFault → Type 0
StaysBehind s history list why = StaysFor (state_after s history).control list why
