-- What each end of a step tells.
use Rattle.std.specs.Prelude.{◌≡◌, ◌≢◌, ℕ, Bool, true, false, IsTrue, List, Result, Ok, Err, Option, Some, None, is_some}
use Rattle.access_states.specs.AccessMap.{owner_of}
use Rattle.scsi_types.specs.ReplyValue.{ReplyValue}
use Rattle.scsi_types.specs.declared.names.Group.{Group}
use Rattle.scsi_types.specs.declared.command.Command.{Command as ScsiCommand}
use Rattle.scsi_types.specs.declared.command.Op.{Op}
use Rattle.scsi_types.specs.declared.command.Op.TheVariants as ops
use Rattle.scsi_types.specs.declared.command.CdbFault.{CdbFault}
use Rattle.unit_control.specs.declared.refusal.Refusal.{Refusal}
use Rattle.unit_control.specs.State.{ControlValue, UnitState}
use Rattle.unit_control.specs.Choice.{choice_of}
use Rattle.unit_control.specs.Groups.{is_opening}
use Rattle.unit_control.specs.Medium.{is_medium, work_asked}
use Rattle.unit_control.specs.Ops.{ParameterList, NoList, ReserveList, GroupsList, kind_of, list_asked}
use Rattle.unit_control.specs.Refusal.{Request, refusal}
use Rattle.unit_control.specs.Entry.{Entry, Command, IsNext, IsPossible, IsReplyTo, control_after, blocks_after}
use Rattle.unit_state.specs.declared.unit.StepEnd.{StepEnd}
use Rattle.unit_state.specs.declared.unit.StepEnd.TheVariants.{Reply, Gone, Moved, NoMemory}

abbrev pub OnReply : StepEnd → (ReplyValue → Type 0) → Type 0
OnReply (Reply reply) P = P reply
OnReply Gone P = Unit {0}
OnReply (Moved owner) P = Unit {0}
OnReply NoMemory P = Unit {0}

abbrev pub OnNoReply : StepEnd → Type 0 → Type 0
OnNoReply (Reply reply) P = Unit {0}
OnNoReply Gone P = P
OnNoReply (Moved owner) P = P
OnNoReply NoMemory P = P

-- Gone exactly where the command is not the session's next; else Moved, to the owner, exactly where it came by
-- another group
abbrev pub IsRouted : ControlValue → ℕ → ℕ → Group → StepEnd → Type 0
IsRouted c session serial by (Reply reply) = IsNext c session serial × (by ≡ owner_of c.access)
IsRouted c session serial by Gone = IsNext c session serial → ⊥
IsRouted c session serial by (Moved owner) = IsNext c session serial × (by ≢ owner_of c.access)
    × (owner ≡ owner_of c.access)
IsRouted c session serial by NoMemory = IsNext c session serial × (by ≡ owner_of c.access)

-- the data of a reply: sense data, the blocks of a READ, or what the unit is, who is registered with it, or what state each group is in
pub data ReplyData : Type 0 where
  SenseData : ReplyData
  ReadData : ReplyData
  Description : ReplyData

-- which of them a kind of command asks for
abbrev pub data_of : Op → Option ReplyData
data_of ops.TestUnitReady = None
data_of ops.RequestSense = Some SenseData
data_of ops.Inquiry = Some Description
data_of ops.ModeSense = Some Description
data_of ops.ReadCapacity = Some Description
data_of ops.Read = Some ReadData
data_of ops.Write = None
data_of ops.CompareAndWrite = None
data_of ops.SynchronizeCache = None
data_of ops.PersistentReserveIn = Some Description
data_of ops.PersistentReserveOut = None
data_of ops.ReportLuns = Some Description
data_of ops.ReportTargetPortGroups = Some Description
data_of ops.SetTargetPortGroups = None

abbrev pub is_description : Option ReplyData → Bool
is_description None = false
is_description (Some SenseData) = false
is_description (Some ReadData) = false
is_description (Some Description) = true

-- a command that asks for such a description
abbrev pub is_describing : ScsiCommand → Bool
is_describing command = is_description (data_of (kind_of command))

-- a command takes memory for the data of its reply, and none for anything else: nothing that fences can lack it
abbrev pub takes_memory : ScsiCommand → Bool
takes_memory command = is_some (data_of (kind_of command))

abbrev pub MayTake : Result ScsiCommand CdbFault → Type 0
MayTake (Ok command) = IsTrue (takes_memory command)
MayTake (Err fault) = ⊥

-- the command takes memory: no rule refuses it, and it is one that does
pub record TakesMemory (c : ControlValue) (r : Request) : Type 0 where
  pub unrefused : refusal c r ≡ None
  pub takes : MayTake r.asked

-- the command's entry, whose choice its reply and the unit after it tell
abbrev pub entry_of : ℕ → ℕ → Group → Result ScsiCommand CdbFault → List ℕ → ReplyValue → UnitState → Entry
entry_of session serial by asked bytes reply new =
    Command session serial by asked bytes (choice_of reply new.blocks new.control.lasting)

-- The step added this entry: it was possible, and what is left and the reply are what the model gives; the blocks
-- too, where the device's type claims them.
pub record IsStep (claims : Bool) (old new : UnitState) (entry : Entry) (reply : ReplyValue) : Type 0 where
  pub possible : IsPossible claims old entry
  pub control : new.control ≡ control_after old.control entry
  pub blocks : IsTrue claims → new.blocks ≡ blocks_after old entry
  pub answer : IsReplyTo claims old entry reply

-- the opener is asked: no rule refuses the command, and it changes the owner
abbrev pub opens_with : Option Refusal → ControlValue → Request → Bool
opens_with (Some refused) c r = false
opens_with None c r = is_opening c r.asked r.bytes

abbrev pub asks_opener : ControlValue → Request → Bool
asks_opener c r = opens_with (refusal c r) c r

-- the registration file is asked: no rule refuses the command, and it is a PERSISTENT RESERVE OUT
abbrev pub is_reserve_list : ParameterList → Bool
is_reserve_list NoList = false
is_reserve_list (ReserveList list_length) = true
is_reserve_list (GroupsList list_length) = false

abbrev pub is_reserving : Result ScsiCommand CdbFault → Bool
is_reserving asked = is_reserve_list (list_asked asked)

abbrev pub saves_with : Option Refusal → Request → Bool
saves_with (Some refused) r = false
saves_with None r = is_reserving r.asked

abbrev pub asks_file : ControlValue → Request → Bool
asks_file c r = saves_with (refusal c r) r

-- the medium is worked on: no rule refuses the command, and it is one that reads, writes, compares or flushes
abbrev pub works_with : Option Refusal → Request → Bool
works_with (Some refused) r = false
works_with None r = is_medium (work_asked r.asked r.bytes)

abbrev pub asks_medium : ControlValue → Request → Bool
asks_medium c r = works_with (refusal c r) r

-- a command that a rule refuses does not reach the device
abbrev pub WhereRefused : Option Refusal → Type 0 → Type 0
WhereRefused (Some refused) P = P
WhereRefused None P = Unit {0}
