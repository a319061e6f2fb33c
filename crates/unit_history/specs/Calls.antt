-- What each call of a shared unit promises, said of the history that its pass has then seen.
use Rattle.std.specs.Prelude.{◌≡◌, ℕ, ◌+◌, Bool, List, [], ◌∷◌, ◌++◌, length, Result, Ok, Err}
use mathlib.Core.List.{IsPrefix}
use Rattle.access_states.specs.declared.change.Change.{Change}
use Rattle.block_file.specs.declared.blocks.DeviceFailed.{DeviceFailed}
use Rattle.unit_lock.specs.Calls.{Known, IsAdded, IsBeside, IsBetween, IsEnded, IsRefused, IsCause}
use Rattle.unit_lock.specs.declared.machine.Refused.{Refused}
use Rattle.registrants.specs.Registry.{RegistryValue}
use Rattle.scsi_types.specs.Nexus.{Nexus}
use Rattle.scsi_types.specs.ReplyValue.{ReplyValue}
use Rattle.scsi_types.specs.declared.names.Group.{Group}
use Rattle.scsi_types.specs.declared.command.Command.{Command as ScsiCommand}
use Rattle.scsi_types.specs.declared.command.CdbFault.{CdbFault}
use Rattle.unit_state.specs.declared.unit.MoveFault.{MoveFault}
use Rattle.status.specs.declared.row.Row.{Row}
use Rattle.unit_control.specs.State.{UnitState, UnitValue}
use Rattle.unit_control.specs.Choice.{Fine}
use Rattle.unit_control.specs.Entry.{Entry, Attach, Detach, Reset, Move}
use Rattle.unit_entries.specs.Devices.{Devices, claims_of, HaveFlushed, HaveMoved, HaveWorked}
use Rattle.unit_entries.specs.Histories.{IsBehind, IsHistory, IsCommand, IsToldBehind, own}
use Rattle.unit_entries.specs.RowOf.{IsRegistryBehind, row_behind}
use Rattle.unit_entries.specs.NoEntry.{IsUnattached, IsFull, IsSessionGone, IsOwner, StaysBehind, TakesMemoryBehind}
use Rattle.unit_entries.specs.Histories.{IsMoveTold}

-- A session attached: its pass has seen a legal history that ends with its Attach, whose place is the session's number.
abbrev pub HasAttached : Bool → UnitState → Nexus → Known Entry → Type 0
HasAttached claims s nexus pass =
    (h : List Entry) × (pass.seen ≡ h ++ Attach nexus ∷ []) × (pass.session ≡ length h) × (pass.serial ≡ 1)
    × IsHistory claims s pass.seen

-- A session was refused: this is a legal history behind which none of its nexus has room.
abbrev pub HasNoRoom : Bool → UnitState → Nexus → List Entry → Type 0
HasNoRoom claims s nexus history = IsFull s history nexus × IsHistory claims s history

-- its session stays, and the serial is the next one
abbrev pub IsNextSerial : Known Entry → Known Entry → Type 0
IsNextSerial before after = (after.session ≡ before.session) × (after.serial ≡ before.serial + 1)

-- A command was served: its pass has seen a legal history that begins with all that it had seen, has no other new Command,
-- Reset or Detach of its session, and ends with this command, whose reply there this is.
abbrev pub HasServed : Bool → UnitState → Known Entry → Known Entry → Group → Result ScsiCommand CdbFault → List ℕ
    → ReplyValue → Type 0
HasServed claims s before after by_group asked bytes reply =
    IsAdded own (IsHistory claims s) before after
    (λ h e. IsCommand before.session before.serial by_group asked bytes e × IsToldBehind claims s h e reply)
    × IsNextSerial before after

-- the unit is what the history leaves, as far as its devices' types claim it, and they have counted what it tells as failed
abbrev pub IsLeft : {B R O : Type 0} → Devices B R O → UnitState → List Entry → UnitValue B R O → Type 0
IsLeft d s = IsBehind (claims_of d) d.blocks.contents d.blocks.failures d.opener.opens_failed d.file.failures s

-- What became of the devices in a command that was served, which is the last entry of this history: of the unit that the history
-- before it left, and the one that it left.
abbrev pub HasWorked : {B R O : Type 0} → Devices B R O → UnitState → ℕ → Result ScsiCommand CdbFault → List ℕ → ReplyValue
    → List Entry → Type 0
HasWorked d s session asked bytes reply history = IsBetween (IsLeft d s) history (HaveWorked d session asked bytes reply)

-- A command was not served: its pass has seen a legal history that begins with all that it had seen and has no new Command,
-- Reset or Detach of its session; and behind it the session is gone, or this other group owns the unit, or the command takes
-- memory.
abbrev pub HasRefused : Bool → UnitState → Known Entry → Known Entry → Group → Result ScsiCommand CdbFault → List ℕ
    → Refused Group → Type 0
HasRefused claims s before after by_group asked bytes why =
    IsRefused own (IsHistory claims s) before after
    × IsCause (IsSessionGone s after.seen before.session) (IsOwner s after.seen)
    (TakesMemoryBehind s after.seen before.session asked bytes) by_group why

-- The unit was reset: the same, and the history ends with this Reset.
abbrev pub HasReset : Bool → UnitState → Known Entry → Known Entry → Type 0
HasReset claims s before after =
    IsAdded own (IsHistory claims s) before after (λ h e. e ≡ Reset before.session)
    × (after.session ≡ before.session) × (after.serial ≡ before.serial)

-- The session was gone: the history that its pass has seen shows it, and has no new entry of its own.
abbrev pub WasGone : Bool → UnitState → Known Entry → Known Entry → Type 0
WasGone claims s before after =
    IsRefused own (IsHistory claims s) before after × IsSessionGone s after.seen before.session

-- The session ended: this is a legal history that begins with all that its pass had seen, has no other new Command, Reset or
-- Detach of its session, and ends with its Detach, behind which it is not attached.
abbrev pub HasRetired : Bool → UnitState → Known Entry → List Entry → Type 0
HasRetired claims s before history =
    IsEnded own (IsHistory claims s) before history (Detach before.session) × IsUnattached s history before.session

-- The unit moved: this is a legal history that ends with this Move, this is what changed, and this became of the devices.
pub record HasMoved {B R O : Type 0} (d : Devices B R O) (s : UnitState) (list : List ℕ) (history : List Entry) (told : Change)
    : Type 0 where
  pub legal : IsHistory (claims_of d) s history
  pub ends : (h : List Entry) × (history ≡ h ++ Move list Fine ∷ []) × IsMoveTold s h list told
  pub moved : IsBetween (IsLeft d s) history (λ old new. HaveMoved d old new (Ok told))

-- The unit stays: this is a legal history that shows why, and this became of the devices.
pub record HasStayed {B R O : Type 0} (d : Devices B R O) (s : UnitState) (list : List ℕ) (history : List Entry) (why : MoveFault)
    : Type 0 where
  pub legal : IsHistory (claims_of d) s history
  pub stays : StaysBehind s history list why
  pub kept : IsBeside (IsLeft d s) history (λ old new. HaveMoved d old new (Err why))

-- Two sessions have merged what they had seen: both passes have then seen one legal history, which begins with either's.
pub record HaveMerged (claims : Bool) (s : UnitState) (one two first second : Known Entry) : Type 0 where
  pub same : first.seen ≡ second.seen
  pub one_begins : IsPrefix one.seen first.seen
  pub two_begins : IsPrefix two.seen first.seen
  pub legal : IsHistory claims s first.seen
  pub sessions : (first.session ≡ one.session) × (second.session ≡ two.session)
  pub serials : (first.serial ≡ one.serial) × (second.serial ≡ two.serial)

-- The unit that a legal history left was flushed, which came to this end.
pub record HasFlushed {B R O : Type 0} (d : Devices B R O) (s : UnitState) (end : Result (Unit {0}) DeviceFailed) : Type 0 where
  pub history : List Entry
  pub legal : IsHistory (claims_of d) s history
  pub flushed : IsBeside (IsLeft d s) history (λ old new. HaveFlushed d old new end)

-- The board shows the row of a legal history.
pub record IsShown (claims : Bool) (s : UnitState) (row : Row) : Type 0 where
  pub history : List Entry
  pub legal : IsHistory claims s history
  pub row_is : row ≡ row_behind s history

-- This is the registry of the unit that a legal history left.
abbrev pub IsRegistry : Bool → UnitState → RegistryValue → Type 0
IsRegistry claims s registry = (history : List Entry) × IsHistory claims s history × IsRegistryBehind s history registry
