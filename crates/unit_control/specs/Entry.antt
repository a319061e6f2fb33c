-- The entries of a unit's history: what is possible, what is after one, and what it is answered. What is said of the
-- medium stands under the claim of the device's type.
use Rattle.std.specs.Prelude.{◌≡◌, ℕ, ◌+◌, ◌<◌, Bool, true, IsTrue, List, [], ◌∷◌, ◌++◌, length, Option, Some}
use Rattle.std.specs.Prelude.{None, IsSome, Result, Ok, Err}
use Rattle.access_states.specs.AccessMap.{owner_of}
use Rattle.identity.specs.Capacity.{capacity_10, capacity_16}
use Rattle.identity.specs.InquiryData.{inquiry_data}
use Rattle.identity.specs.Luns.{lun_list}
use Rattle.identity.specs.Mode.{mode_data}
use Rattle.identity.specs.SenseData.{told_sense}
use Rattle.identity.specs.Table.{cut, spell}
use Rattle.registrants.specs.Registry.{RecordValue}
use Rattle.scsi_types.specs.ReplyValue.{ReplyValue, good}
use Rattle.scsi_types.specs.Sense.{sense_bytes}
use Rattle.scsi_types.specs.Nexus.{Nexus}
use Rattle.scsi_types.specs.declared.names.Group.{Group}
use Rattle.scsi_types.specs.declared.command.Command.{Command as ScsiCommand}
use Rattle.scsi_types.specs.declared.command.Command.TheVariants as commands
use Rattle.scsi_types.specs.declared.command.CdbFault.{CdbFault}
use Rattle.unit_control.specs.declared.refusal.Refusal.{Refusal}
use Rattle.unit_control.specs.Limits.{last_length, most_sessions}
use Rattle.unit_control.specs.State.{ControlValue, UnitState, tell}
use Rattle.unit_control.specs.Sessions.{attached, session_of, next_of, sender_of, first_pending, command_counted, ended}
use Rattle.unit_control.specs.Sessions.{all_reset, without}
use Rattle.unit_control.specs.Groups.{IsTaken, set_by, move_by, is_opening, after_change, report_by}
use Rattle.unit_control.specs.Reserve.{MayFailToSave, pr_out, effect_by, after_saved, saved_reply, in_data}
use Rattle.unit_control.specs.Choice.{Choice, Fine, ReadFailed, WriteFailed, OpenFailed, SaveFailed}
use Rattle.unit_control.specs.Medium.{Work, Finding, work_asked, MayChoose, MayFind, IsTorn, found, left, reply_by}
use Rattle.unit_control.specs.Refusal.{Request, request, refusal, refusal_reply, refusal_control}

-- A session attaches, or ends; one resets the unit (SAM-5, logical unit reset); the unit moves, by itself, as a
-- parameter list of SET TARGET PORT GROUPS says; or a command of a session is served: its serial in the session, the
-- group by which it was served, what it asks, its data, and what the devices did.
pub data Entry : Type 0 where
  Attach : Nexus → Entry
  Detach : ℕ → Entry
  Reset : ℕ → Entry
  Move : List ℕ → Choice → Entry
  Command : ℕ → ℕ → Group → Result ScsiCommand CdbFault → List ℕ → Choice → Entry

-- ---- what is possible

-- this serial is the session's next, and the history has room
pub record IsNext (c : ControlValue) (session serial : ℕ) : Type 0 where
  pub room : c.count < last_length
  pub next : next_of c.sessions session ≡ Some serial

-- this session is attached, and the history has room
pub record IsAttached (c : ControlValue) (session : ℕ) : Type 0 where
  pub room : c.count < last_length
  pub attached : IsSome (session_of c.sessions session)

-- a new session has room; that of its nexus ends
pub record HasRoom (c : ControlValue) (nexus : Nexus) : Type 0 where
  pub room : c.count < last_length
  pub sessions : length (without nexus c.sessions) < most_sessions

-- The unit takes this list, and the history has room. A list that it does not take, and a move whose open fails, is no
-- entry.
pub record CanMove (c : ControlValue) (list : List ℕ) (choice : Choice) : Type 0 where
  pub room : c.count < last_length
  pub taken : IsTaken (move_by c list)
  pub fine : choice ≡ Fine

-- a PERSISTENT RESERVE OUT may fail to save what is to last
abbrev pub MayLose : ControlValue → ℕ → Result ScsiCommand CdbFault → List ℕ → List RecordValue → Type 0
MayLose c session (Err fault) bytes after = ⊥
MayLose c session (Ok commands.TestUnitReady) bytes after = ⊥
MayLose c session (Ok (commands.RequestSense allocation)) bytes after = ⊥
MayLose c session (Ok (commands.Inquiry page allocation)) bytes after = ⊥
MayLose c session (Ok (commands.ModeSense header control page allocation)) bytes after = ⊥
MayLose c session (Ok commands.ReadCapacity10) bytes after = ⊥
MayLose c session (Ok (commands.ReadCapacity16 allocation)) bytes after = ⊥
MayLose c session (Ok (commands.Read lba blocks fua)) bytes after = ⊥
MayLose c session (Ok (commands.Write lba blocks fua)) bytes after = ⊥
MayLose c session (Ok (commands.CompareAndWrite lba blocks fua)) bytes after = ⊥
MayLose c session (Ok (commands.SynchronizeCache lba blocks)) bytes after = ⊥
MayLose c session (Ok (commands.PersistentReserveIn action allocation)) bytes after = ⊥
MayLose c session (Ok (commands.PersistentReserveOut action scope kind list_length)) bytes after =
    MayFailToSave c (effect_by c session (pr_out action scope kind bytes)) after
MayLose c session (Ok (commands.ReportLuns select allocation)) bytes after = ⊥
MayLose c session (Ok (commands.ReportTargetPortGroups allocation)) bytes after = ⊥
MayLose c session (Ok (commands.SetTargetPortGroups list_length)) bytes after = ⊥

-- What a command may come to, of every device: a failure of the medium where its work meets it, an open that fails where
-- the command changes the owner, and a save that fails where it is asked for.
abbrev pub MayCome : ControlValue → ℕ → Result ScsiCommand CdbFault → List ℕ → Choice → Type 0
MayCome c session asked bytes Fine = Unit {0}
MayCome c session asked bytes ReadFailed = MayChoose (work_asked asked bytes) ReadFailed
MayCome c session asked bytes (WriteFailed after) = MayChoose (work_asked asked bytes) (WriteFailed after)
MayCome c session asked bytes OpenFailed = is_opening c asked bytes ≡ true
MayCome c session asked bytes (SaveFailed after) = MayLose c session asked bytes after

-- a command that is refused leaves the devices alone
abbrev pub CanChoose : Option Refusal → ControlValue → Request → Choice → Type 0
CanChoose (Some refused) c r choice = choice ≡ Fine
CanChoose None c r choice = MayCome c r.session r.asked r.bytes choice

abbrev pub CanTear : Option Refusal → List (List ℕ) → Work → Choice → Type 0
CanTear (Some refused) blocks work choice = Unit {0}
CanTear None blocks work choice = IsTorn blocks work choice

-- a command that is the session's next came by the owner, and the devices did this in it
pub record CanCome (claims : Bool) (s : UnitState) (r : Request) (serial : ℕ) (by : Group)
    (choice : Choice) : Type 0 where
  pub next : IsNext s.control r.session serial
  pub owner : by ≡ owner_of s.control.access
  pub chosen : CanChoose (refusal s.control r) s.control r choice
  pub torn : IsTrue claims → CanTear (refusal s.control r) s.blocks (work_asked r.asked r.bytes) choice

-- the entry is possible in this state, over devices whose types claim what is said of a disk or not
abbrev pub IsPossible : Bool → UnitState → Entry → Type 0
IsPossible claims s (Attach nexus) = HasRoom s.control nexus
IsPossible claims s (Detach session) = IsAttached s.control session
IsPossible claims s (Reset session) = IsAttached s.control session
IsPossible claims s (Move list choice) = CanMove s.control list choice
IsPossible claims s (Command session serial by asked bytes choice) =
    CanCome claims s (request session asked bytes) serial by choice

-- ---- what is after an entry, and what it is answered

-- the data of a command that asks what the unit is, by the group of its session, who is registered with it, or what
-- state each group is in
abbrev pub described : ControlValue → ℕ → ScsiCommand → List ℕ
described c session (commands.Inquiry page allocation) =
    cut allocation (spell (inquiry_data c.place (sender_of c.sessions session).group page))
described c session (commands.ModeSense header control page allocation) =
    cut allocation (spell (mode_data header control page))
described c session (commands.ReportLuns select allocation) = cut allocation (spell (lun_list c.place select))
described c session commands.ReadCapacity10 = spell (capacity_10 c.total)
described c session (commands.ReadCapacity16 allocation) = cut allocation (spell (capacity_16 c.total))
described c session (commands.PersistentReserveIn action allocation) = cut allocation (in_data c.registry action)
described c session (commands.ReportTargetPortGroups allocation) = cut allocation (report_by c)
described c session commands.TestUnitReady = []
described c session (commands.RequestSense allocation) = []
described c session (commands.Read lba blocks fua) = []
described c session (commands.Write lba blocks fua) = []
described c session (commands.CompareAndWrite lba blocks fua) = []
described c session (commands.SynchronizeCache lba blocks) = []
described c session (commands.PersistentReserveOut action scope kind list_length) = []
described c session (commands.SetTargetPortGroups list_length) = []

-- What a command returns that no rule refuses, where the devices told this: REQUEST SENSE its session's first
-- attention as data, or that there is none (SPC-4, 6.39); PERSISTENT RESERVE OUT what its row of the table says, unless
-- its save failed; a medium command and SET TARGET PORT GROUPS answer the finding.
abbrev pub returned_by : ControlValue → ℕ → ScsiCommand → List ℕ → Finding → ReplyValue
returned_by c session (commands.RequestSense allocation) bytes finding =
    good (cut allocation (sense_bytes (told_sense (first_pending c.sessions session))))
returned_by c session (commands.PersistentReserveOut action scope kind list_length) bytes finding =
    saved_reply (effect_by c session (pr_out action scope kind bytes)) finding
returned_by c session (commands.Read lba blocks fua) bytes finding = reply_by finding
returned_by c session (commands.Write lba blocks fua) bytes finding = reply_by finding
returned_by c session (commands.CompareAndWrite lba blocks fua) bytes finding = reply_by finding
returned_by c session (commands.SynchronizeCache lba blocks) bytes finding = reply_by finding
returned_by c session (commands.SetTargetPortGroups list_length) bytes finding = reply_by finding
returned_by c session commands.TestUnitReady bytes finding = good []
returned_by c session (commands.Inquiry page allocation) bytes finding =
    good (described c session (commands.Inquiry page allocation))
returned_by c session (commands.ModeSense header control page allocation) bytes finding =
    good (described c session (commands.ModeSense header control page allocation))
returned_by c session commands.ReadCapacity10 bytes finding =
    good (described c session commands.ReadCapacity10)
returned_by c session (commands.ReadCapacity16 allocation) bytes finding =
    good (described c session (commands.ReadCapacity16 allocation))
returned_by c session (commands.PersistentReserveIn action allocation) bytes finding =
    good (described c session (commands.PersistentReserveIn action allocation))
returned_by c session (commands.ReportLuns select allocation) bytes finding =
    good (described c session (commands.ReportLuns select allocation))
returned_by c session (commands.ReportTargetPortGroups allocation) bytes finding =
    good (described c session (commands.ReportTargetPortGroups allocation))

-- a CDB that asks for nothing is refused
abbrev pub returned_asked : ControlValue → ℕ → Result ScsiCommand CdbFault → List ℕ → Finding → ReplyValue
returned_asked c session (Ok command) bytes finding = returned_by c session command bytes finding
returned_asked c session (Err fault) bytes finding = reply_by finding

abbrev pub returned : ControlValue → Request → Finding → ReplyValue
returned c r finding = returned_asked c r.session r.asked r.bytes finding

-- SET TARGET PORT GROUPS does its change unless the open failed
abbrev pub left_groups : ControlValue → ℕ → ℕ → List ℕ → Choice → ControlValue
left_groups c session list_length bytes OpenFailed = c
left_groups c session list_length bytes Fine = after_change c (Some session) (set_by c list_length bytes)
left_groups c session list_length bytes ReadFailed = after_change c (Some session) (set_by c list_length bytes)
left_groups c session list_length bytes (WriteFailed after) = after_change c (Some session) (set_by c list_length bytes)
left_groups c session list_length bytes (SaveFailed after) = after_change c (Some session) (set_by c list_length bytes)

-- And what it leaves of all but the blocks: REQUEST SENSE has told an attention, PERSISTENT RESERVE OUT did its row
-- unless its save failed, SET TARGET PORT GROUPS its change unless the open failed, and any other leaves all as it was.
abbrev pub left_by : ControlValue → ℕ → ScsiCommand → List ℕ → Choice → ControlValue
left_by c session (commands.RequestSense allocation) bytes choice = tell c session
left_by c session (commands.PersistentReserveOut action scope kind list_length) bytes choice =
    after_saved c (effect_by c session (pr_out action scope kind bytes)) choice
left_by c session (commands.SetTargetPortGroups list_length) bytes choice = left_groups c session list_length bytes choice
left_by c session commands.TestUnitReady bytes choice = c
left_by c session (commands.Inquiry page allocation) bytes choice = c
left_by c session (commands.ModeSense header control page allocation) bytes choice = c
left_by c session commands.ReadCapacity10 bytes choice = c
left_by c session (commands.ReadCapacity16 allocation) bytes choice = c
left_by c session (commands.Read lba blocks fua) bytes choice = c
left_by c session (commands.Write lba blocks fua) bytes choice = c
left_by c session (commands.CompareAndWrite lba blocks fua) bytes choice = c
left_by c session (commands.SynchronizeCache lba blocks) bytes choice = c
left_by c session (commands.PersistentReserveIn action allocation) bytes choice = c
left_by c session (commands.ReportLuns select allocation) bytes choice = c
left_by c session (commands.ReportTargetPortGroups allocation) bytes choice = c

abbrev pub left_asked : ControlValue → ℕ → Result ScsiCommand CdbFault → List ℕ → Choice → ControlValue
left_asked c session (Ok command) bytes choice = left_by c session command bytes choice
left_asked c session (Err fault) bytes choice = c

abbrev pub left_control : ControlValue → Request → Choice → ControlValue
left_control c r choice = left_asked c r.session r.asked r.bytes choice

-- a refusal has its answer, and changes what telling it changes
abbrev pub reply_with : Option Refusal → ControlValue → Request → Finding → ReplyValue
reply_with (Some refused) c r finding = refusal_reply refused
reply_with None c r finding = returned c r finding

abbrev pub control_with : Option Refusal → ControlValue → Request → Choice → ControlValue
control_with (Some refused) c r choice = refusal_control c r.session refused
control_with None c r choice = left_control c r choice

abbrev pub blocks_with : Option Refusal → List (List ℕ) → Work → Choice → List (List ℕ)
blocks_with (Some refused) blocks work choice = blocks
blocks_with None blocks work choice = left blocks work choice

-- one command more of a session, and one entry more
abbrev pub count_command : ControlValue → ℕ → ControlValue
count_command c session = record c { sessions = command_counted c.sessions session; count = c.count + 1 }

-- one entry more
abbrev pub count_one : ControlValue → ControlValue
count_one c = record c { count = c.count + 1 }

-- what does not rest on the medium, after an entry
abbrev pub control_after : ControlValue → Entry → ControlValue
control_after c (Attach nexus) =
    record c { sessions = without nexus c.sessions ++ attached nexus c.count ∷ []; count = c.count + 1 }
control_after c (Detach session) = record c { sessions = ended c.sessions session; count = c.count + 1 }
control_after c (Reset session) = record c { sessions = all_reset c.sessions session; count = c.count + 1 }
control_after c (Move list choice) = count_one (after_change c None (move_by c list))
control_after c (Command session serial by asked bytes choice) =
    let r = request session asked bytes in
    count_command (control_with (refusal c r) c r choice) session

-- the blocks of a disk after an entry
abbrev pub blocks_after : UnitState → Entry → List (List ℕ)
blocks_after s (Attach nexus) = s.blocks
blocks_after s (Detach session) = s.blocks
blocks_after s (Reset session) = s.blocks
blocks_after s (Move list choice) = s.blocks
blocks_after s (Command session serial by asked bytes choice) =
    blocks_with (refusal s.control (request session asked bytes)) s.blocks (work_asked asked bytes) choice

-- the state after an entry
abbrev pub after : UnitState → Entry → UnitState
after s entry = record { control = control_after s.control entry; blocks = blocks_after s entry }

-- what an entry over a disk is answered: a command's reply
abbrev pub reply_to : UnitState → Entry → Option ReplyValue
reply_to s (Attach nexus) = None
reply_to s (Detach session) = None
reply_to s (Reset session) = None
reply_to s (Move list choice) = None
reply_to s (Command session serial by asked bytes choice) =
    let r = request session asked bytes in
    Some (reply_with (refusal s.control r) s.control r (found s.blocks (work_asked asked bytes) choice))

-- What a command is answered over any device: the refusal's answer, or by what the medium may have found, which under
-- the claim is what the disk tells.
pub record IsReturned (claims : Bool) (s : UnitState) (r : Request) (choice : Choice) (reply : ReplyValue) : Type 0 where
  pub finding : Finding
  pub may : MayFind (work_asked r.asked r.bytes) choice finding
  pub is : reply ≡ returned s.control r finding
  pub told : IsTrue claims → finding ≡ found s.blocks (work_asked r.asked r.bytes) choice

abbrev pub IsReplyWith : Option Refusal → Bool → UnitState → Request → Choice → ReplyValue → Type 0
IsReplyWith (Some refused) claims s r choice reply = reply ≡ refusal_reply refused
IsReplyWith None claims s r choice reply = IsReturned claims s r choice reply

abbrev pub IsReplyTo : Bool → UnitState → Entry → ReplyValue → Type 0
IsReplyTo claims s (Attach nexus) reply = ⊥
IsReplyTo claims s (Detach session) reply = ⊥
IsReplyTo claims s (Reset session) reply = ⊥
IsReplyTo claims s (Move list choice) reply = ⊥
IsReplyTo claims s (Command session serial by asked bytes choice) reply =
    let r = request session asked bytes in
    IsReplyWith (refusal s.control r) claims s r choice reply
