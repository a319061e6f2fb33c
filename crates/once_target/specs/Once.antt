-- What one session over one unit is, from bytes to bytes and from blocks to blocks.
use Rattle.std.specs.Prelude.{◌≡◌, ◌≢◌, ℕ, suc, ◌+◌, ◌<◌, ◌≤◌, Bool, false, IsTrue, IsSome, List, [], ◌∷◌}
use Rattle.std.specs.Prelude.{◌++◌, length, map, take, drop, codes, Option, Some, None, Result, Ok, slice_get}
use Rattle.std.specs.List.{filter_map}
use Rattle.std.specs.Io.KnownBytes.{Consumes, IsAtEnd}
use Rattle.aptpl_file.specs.Lasts.{EachOutcomeHolds}
use Rattle.block_file.specs.Disk.{Only}
use Rattle.block_file.specs.Failures.{last_count}
use Rattle.block_file.specs.declared.mem.MemBlocks.{MemBlocks}
use Rattle.identity.specs.Absent.{absent_reply}
use Rattle.registrants.specs.Registry.{RecordValue}
use Rattle.scsi_types.specs.ReplyValue.{ReplyValue}
use Rattle.scsi_types.specs.Nexus.{Nexus}
use Rattle.scsi_types.specs.declared.names.Group.TheVariants.{One}
use Rattle.scsi_types.specs.declared.names.Place.{Place}
use Rattle.scsi_types.specs.declared.status.Status.TheVariants.{Good}
use Rattle.scsi_types.specs.declared.command.Command.{Command as ScsiCommand}
use Rattle.scsi_types.specs.declared.command.Command.TheVariants as commands
use Rattle.scsi_types.specs.declared.command.CdbFault.{CdbFault}
use Rattle.session_rules.specs.Asking.{Asking, began, lives, served, reset, over}
use Rattle.session_rules.specs.declared.target.BeginAnswer.TheVariants.{Refused}
use Rattle.session_rules.specs.Lengths.{default_lengths}
use Rattle.session_rules.specs.Setting.{Setting}
use Rattle.session_rules.specs.declared.start.Start.{Start}
use Rattle.session_rules.specs.declared.end.End.{End}
use Rattle.session_rules.specs.declared.target.TargetAnswer.TheVariants.{Replied, Outside, Busy, Gone}
use Rattle.session_rules.specs.declared.target.ResetAnswer.TheVariants as resets
use Rattle.session_rules.specs.Turn.{Turn, Leads, Spells}
use Rattle.session_rules.specs.Legal.{Lawful}
use Rattle.session_rules.specs.Phases.{of_turn, incoming, asked}
use Rattle.session_rules.specs.Ends.{EndsBy}
use Rattle.session.specs.Transcript.{Written}
use Rattle.unit_control.specs.Limits.{last_length}
use Rattle.unit_control.specs.State.{UnitState, opening}
use Rattle.unit_control.specs.Choice.{Fine}
use Rattle.unit_control.specs.Entry.{Entry, Attach, Detach, Reset, Move, Command, after}
use Rattle.unit_state.specs.History.{state_after, IsLegal, IsReplyAt, failed_entries}
use Rattle.unit_control.specs.Medium.{is_flushed, work_asked}
use Rattle.unit_control.specs.Refusal.{refusal, request}
use Rattle.once_target.specs.OneUnit.{Device, TargetValue, IsBusy, LeadsOn}

-- the nexus of the one session
abbrev pub host : Nexus
host = record { port = record { name = codes "iqn.2000-01.test:host"; isid = 0 }; group = One }

-- the unit's place: the only one of array 1
abbrev pub place : Place
place = record { unit = 0; units = 1; array = 1 }

-- with what the session begins: CmdSN 1, StatSN 1, and the lengths where none are negotiated
abbrev pub from_one : Start
from_one = record { exp_cmd_sn = 1; stat_sn = 1; lengths = default_lengths }

-- nobody is registered as it opens
abbrev pub nothing : RecordValue
nothing = record { aptpl = false; registrants = []; reservation = None }

-- The entries before the session's first command: it is attached, by which its id is 0; and a command of its own takes
-- the attention that the unit was powered on, which the session is so not told again (SAM-5, 5.14).
abbrev pub first_entries : List Entry
first_entries = Attach host ∷ Command 0 1 One (Ok commands.TestUnitReady) [] Fine ∷ []

-- the unit over these blocks behind them
abbrev pub begun : {B : Type 0} → Device B → B → UnitState
begun d blocks = state_after (opening place (d.size blocks) (d.contents blocks) nothing) first_entries

-- such a unit, and its session; of its registration file a crash leaves a record that it names
pub record IsBegun {B : Type 0} (d : Device B) (f : Device MemBlocks) (blocks : B) (target : TargetValue B) : Type 0 where
  pub session : target.at.session ≡ 0
  pub device : target.unit.device ≡ blocks
  pub control : target.unit.control ≡ (begun d blocks).control
  pub restart : IsTrue f.claims → EachOutcomeHolds (f.size target.unit.file.device) (f.may_hold target.unit.file.device)
      target.unit.control.lasting

-- ---- the calls that the unit replied to, and its resets, are the entries of its history

-- what was asked, the data that came, and the reply
pub record RepliedCall : Type 0 where
  pub asked : Result ScsiCommand CdbFault
  pub bytes : List ℕ
  pub reply : ReplyValue

-- a call that the unit entered: one that it replied to, or a reset that was done
pub data EnteredCall : Type 0 where
  replied : RepliedCall → EnteredCall
  was_reset : EnteredCall

abbrev pub entered_by : Asking → Option EnteredCall
entered_by (began port kind answer) = None
entered_by (lives tsih port answer) = None
entered_by (served unit asked bytes (Replied reply)) =
    Some (replied (record { asked = asked; bytes = bytes; reply = reply }))
entered_by (served unit asked bytes (Outside reply)) = None
entered_by (served unit asked bytes Busy) = None
entered_by (served unit asked bytes Gone) = None
entered_by (reset unit resets.Done) = Some was_reset
entered_by (reset unit resets.Gone) = None
entered_by (reset unit resets.Failed) = None
entered_by over = None

abbrev pub entered : List Asking → List EnteredCall
entered cs = filter_map entered_by cs

-- the entry is the session's command that asks this, with this data; or its reset
abbrev pub IsEntryOf : Entry → EnteredCall → Type 0
IsEntryOf (Command session serial by_group asked bytes choice) (replied call) =
    (session ≡ 0) × (asked ≡ call.asked) × (bytes ≡ call.bytes)
IsEntryOf (Reset session) was_reset = session ≡ 0
IsEntryOf entry call = ⊥

-- The entered calls are the entries of this history, in order, and the model gives each command its reply.
pub record AreCommands (claims : Bool) (s : UnitState) (cs : List Asking) (history : List Entry) : Type 0 where
  pub as_many : length history ≡ length (entered cs)
  pub entry : (k : ℕ) (call : EnteredCall) → slice_get (entered cs) k ≡ Some call
      → (e : Entry) × (slice_get history k ≡ Some e) × IsEntryOf e call
  pub reply : (k : ℕ) (call : RepliedCall) → slice_get (entered cs) k ≡ Some (replied call)
      → IsReplyAt claims s history k call.reply

-- ---- which answers there are

-- In this state of the unit a question may have this answer. The unit is 0: it alone replies to a command, and is reset. A
-- command of any other is answered that the unit is not there, and its reset failed. There may be no memory for the data of a
-- reply; the session is gone only where the history has its last length; the unit serves on for good. No other session begins
-- or lives.
abbrev pub IsAnswerable : UnitState → Asking → Type 0
IsAnswerable s (began port kind answer) = answer ≡ Refused
IsAnswerable s (lives tsih port answer) = answer ≡ false
IsAnswerable s (served unit asked bytes (Replied reply)) = unit ≡ Some 0
IsAnswerable s (served unit asked bytes (Outside reply)) = (unit ≢ Some 0) × (reply ≡ absent_reply asked)
IsAnswerable s (served unit asked bytes Busy) =
    IsBusy s.control 0 (record { unit = unit; asked = asked; bytes = bytes })
IsAnswerable s (served unit asked bytes Gone) = (unit ≡ Some 0) × (last_length ≤ s.control.count)
IsAnswerable s (reset unit resets.Done) = unit ≡ 0
IsAnswerable s (reset unit resets.Gone) = (unit ≡ 0) × (last_length ≤ s.control.count)
IsAnswerable s (reset unit resets.Failed) = unit ≢ 0
IsAnswerable s over = Unit {0}

-- each question, in the state behind the entries before it
abbrev pub AreAnswerable : UnitState → List Asking → List Entry → Type 0
AreAnswerable s cs history = (k : ℕ) (asking : Asking) → slice_get cs k ≡ Some asking
    → IsAnswerable (state_after s (take (length (entered (take k cs))) history)) asking

-- ---- failures

-- Over the whole run there are no more failed entries than the count of failures rose, and it rose only if there is
-- one; a count at its last value says nothing.
pub record AreCounted (before now : ℕ) (history : List Entry) : Type 0 where
  pub later : before ≤ now
  pub at_most : now < last_count → failed_entries history + before ≤ now
  pub only : now < last_count → failed_entries history ≡ 0 → now ≡ before

-- ---- what lasts

-- The entry leaves the device of the blocks alone: it is no move, and no command that is served.
abbrev pub IsUnreached : UnitState → Entry → Type 0
IsUnreached s (Attach nexus) = Unit {0}
IsUnreached s (Detach session) = Unit {0}
IsUnreached s (Reset session) = Unit {0}
IsUnreached s (Move list choice) = ⊥
IsUnreached s (Command session serial by_group asked bytes choice) =
    IsSome (refusal s.control (request session asked bytes))

-- so does each of these, from this state on
abbrev pub AreUnreached : UnitState → List Entry → Type 0
AreUnreached s [] = Unit {0}
AreUnreached s (e ∷ history) = IsUnreached s e × AreUnreached (after s e) history

-- GOOD of SYNCHRONIZE CACHE, or of a command with FUA
pub record IsFlushed (call : RepliedCall) : Type 0 where
  pub good : call.reply.status ≡ Good
  pub flushed : IsTrue (is_flushed (work_asked call.asked call.bytes))

-- What a crash leaves of the devices that are handed back: behind a call that is flushed, where no entry reached the blocks'
-- device since, the blocks that it holds; and of the registration file one of the records that the unit names at last.
pub record AreMadeToLast {B : Type 0} (d : Device B) (f : Device MemBlocks) (s : UnitState) (cs : List Asking)
    (history : List Entry) (device : B) (file : MemBlocks) : Type 0 where
  pub blocks : IsTrue d.claims → (k : ℕ) (call : RepliedCall) → slice_get (entered cs) k ≡ Some (replied call)
      → IsFlushed call → AreUnreached (state_after s (take (suc k) history)) (drop (suc k) history)
      → Only (d.contents device) (d.may_hold device)
  pub records : IsTrue f.claims
      → EachOutcomeHolds (f.size file) (f.may_hold file) (state_after s history).control.lasting

-- ---- the whole

-- The bytes of a session's streams, where they tell them: what the source has left, and what the sink took, before the
-- session and after it.
pub record Streams : Type 0 where
  pub left : Option (List ℕ)
  pub left_after : Option (List ℕ)
  pub held : Option (List ℕ)
  pub held_after : Option (List ℕ)

-- The bytes that were read spell the PDUs of a legal transcript, and the bytes written those that it sends: of every
-- device.
pub record IsServed (m : Setting) (streams : Streams) (ts : List Turn) (end : End) : Type 0 where
  pub spelled : List ℕ
  pub rest : List ℕ
  pub lawful : Lawful m ts
  pub ends : EndsBy (map of_turn ts) rest (length spelled + length rest) (IsAtEnd streams.left_after) end
  pub spells : Spells (incoming (map of_turn ts)) spelled
  pub read : Consumes streams.left streams.left_after (spelled ++ rest)
  pub written : Written end streams.held streams.held_after (map of_turn ts)

-- The questions, in order, lead the target from its opening to these devices: so each of its words holds of each question at
-- its place.
pub record HasRun {B : Type 0} (d : Device B) (f : Device MemBlocks) (blocks : B) (cs : List Asking) (device : B)
    (file : MemBlocks) : Type 0 where
  pub first : TargetValue B
  pub last : TargetValue B
  pub begins : IsBegun d f blocks first
  pub led : Leads (LeadsOn d f) cs first last
  pub device_is : device ≡ last.unit.device
  pub file_is : file ≡ last.unit.file.device

-- Its calls are the commands of one legal history of the unit, and each is one to the unit that is there; the failures that
-- this tells are those of the device; a device that no entry reached is as it was; and where the device's type claims its
-- contents, it has the blocks after that history, and those that were made to last.
pub record IsOnce {B : Type 0} (m : Setting) (d : Device B) (f : Device MemBlocks) (streams : Streams) (blocks : B)
    (end : End) (device : B) (file : MemBlocks) : Type 0 where
  pub transcript : List Turn
  pub served : IsServed m streams transcript end
  pub run : HasRun d f blocks (asked (map of_turn transcript)) device file
  pub history : List Entry
  pub legal : IsLegal d.claims (opening place (d.size blocks) (d.contents blocks) nothing) (first_entries ++ history)
  pub commands : AreCommands d.claims (begun d blocks) (asked (map of_turn transcript)) history
  pub answers : AreAnswerable (begun d blocks) (asked (map of_turn transcript)) history
  pub counted : AreCounted (d.failures blocks) (d.failures device) history
  pub unreached : AreUnreached (begun d blocks) history → device ≡ blocks
  pub blocks_after : IsTrue d.claims → d.contents device ≡ (state_after (begun d blocks) history).blocks
  pub lasting : AreMadeToLast d f (begun d blocks) (asked (map of_turn transcript)) history device file
