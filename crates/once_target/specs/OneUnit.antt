-- What the target of one unit answers.
use Rattle.std.specs.Prelude.{◌≡◌, ◌≢◌, ◌⊎◌, ℕ, ◌+◌, ◌≤◌, IsTrue, false, List, Option, Some, Result}
use Rattle.access_states.specs.AccessMap.{owner_of}
use Rattle.aptpl_file.specs.Lasts.{EachOutcomeHolds}
use Rattle.block_file.specs.Failures.{Tells}
use Rattle.block_file.specs.declared.blocks.Blocks.{Ghosts}
use Rattle.block_file.specs.declared.mem.MemBlocks.{MemBlocks}
use Rattle.block_file.specs.declared.opener.KeepOpener.{KeepOpener}
use Rattle.identity.specs.Absent.{absent_reply}
use Rattle.scsi_types.specs.ReplyValue.{ReplyValue}
use Rattle.scsi_types.specs.declared.status.Status.TheVariants.{Good}
use Rattle.scsi_types.specs.declared.command.Command.{Command as ScsiCommand}
use Rattle.scsi_types.specs.declared.command.CdbFault.{CdbFault}
use Rattle.session_rules.specs.Asking.{Asking, began, lives, served, reset, over}
use Rattle.session_rules.specs.declared.target.BeginAnswer.TheVariants.{Refused}
use Rattle.session_rules.specs.declared.target.TargetAnswer.{TargetAnswer}
use Rattle.session_rules.specs.declared.target.TargetAnswer.TheVariants.{Replied, Outside, Busy, Gone}
use Rattle.session_rules.specs.declared.target.ResetAnswer.{ResetAnswer}
use Rattle.session_rules.specs.declared.target.ResetAnswer.TheVariants as resets
use Rattle.unit_control.specs.Limits.{last_length}
use Rattle.unit_control.specs.State.{ControlValue, UnitValue, state_of, failures_of}
use Rattle.unit_control.specs.Answer.{Lasts}
use Rattle.unit_control.specs.Choice.{IsFine, choice_of}
use Rattle.unit_control.specs.Counts.{AreCounted, counters_of}
use Rattle.unit_control.specs.Crash.{HoldsAsBefore, LeavesAmong, holds_with}
use Rattle.unit_control.specs.Entry.{Reset, IsAttached, IsNext, control_after}
use Rattle.unit_control.specs.Medium.{work_asked}
use Rattle.unit_control.specs.Refusal.{Request, refusal, request}
use Rattle.unit_state.specs.Step.{IsStep, WhereRefused, TakesMemory, asks_file, asks_medium, entry_of}
use Rattle.unit_state.specs.declared.unit.StepEnd.{StepEnd}
use Rattle.unit_state.specs.declared.unit.StepEnd.TheVariants as ends
use Rattle.once_target.specs.declared.attachment.Attachment.{Attachment}

-- What a type of devices says of itself, by the names of the trait `Blocks`: what it claims, and of each of its devices the
-- size, the contents, what a crash may leave and how often it has failed.
abbrev pub Device : Type 0 → Type 1
Device B = Ghosts B

-- What contracts see of the target: its unit, and how the session that is attached to it submits its commands: the
-- unit's session, the serial of its next command, and the group that is believed to own the unit.
pub record TargetValue (B : Type 0) : Type 0 where
  pub unit : UnitValue B MemBlocks KeepOpener
  pub at : Attachment

-- what is asked of a target: the unit that the LUN names, what the CDB asks for, and the data that came
pub record Call : Type 0 where
  pub unit : Option ℕ
  pub asked : Result ScsiCommand CdbFault
  pub bytes : List ℕ

-- Both controllers reach the one device, which is never opened anew, and the registration file is in memory: neither
-- ever fails.
abbrev pub never_unopened : KeepOpener → ℕ
never_unopened opener = 0

abbrev pub never_unsaved : MemBlocks → ℕ
never_unsaved device = 0

-- what the session asks, as its unit judges it
abbrev pub request_of : {B : Type 0} → TargetValue B → Call → Request
request_of old call = request old.at.session call.asked call.bytes

-- What a crash leaves: after GOOD of SYNCHRONIZE CACHE, or of a command with FUA, the blocks that the unit holds; after any
-- command, and inside it, of each block a value that might be left before, or in a range that it wrote the new block; of a
-- device that it does not work on just what was left before; and of the registration file one of the records that the unit
-- names. A command that a rule refuses does not reach the device of the blocks, and no other than PERSISTENT RESERVE OUT the
-- registration file.
pub record IsLasting {B : Type 0} (d : Device B) (f : Device MemBlocks) (old new : TargetValue B) (call : Call)
    (reply : ReplyValue) : Type 0 where
  pub lasts : IsTrue d.claims
      → Lasts (d.contents new.unit.device) (d.may_hold new.unit.device) (work_asked call.asked call.bytes) reply
  pub left : IsTrue d.claims → LeavesAmong d.claims_moments d.moment d.left_since d.size d.may_hold
      (holds_with (refusal old.unit.control (request_of old call)) (d.contents old.unit.device)
      (work_asked call.asked call.bytes) (choice_of reply (d.contents new.unit.device) new.unit.control.lasting)
      (d.may_hold old.unit.device)) old.unit.device new.unit.device
  pub same : asks_medium old.unit.control (request_of old call) ≡ false
      → HoldsAsBefore d.moment d.left_since d.may_hold old.unit.device new.unit.device
  pub restart : IsTrue f.claims → EachOutcomeHolds (f.size new.unit.file.device) (f.may_hold new.unit.file.device)
      new.unit.control.lasting
  pub unreached : WhereRefused (refusal old.unit.control (request_of old call)) (new.unit.device ≡ old.unit.device)
  pub unsaved : asks_file old.unit.control (request_of old call) ≡ false → new.unit.file ≡ old.unit.file

-- A command of the session was one step of the unit, which tells the truth of failures, also of each kind by itself, and makes
-- what it says last. Another owner has the device as it was.
pub record IsCommand {B : Type 0} (d : Device B) (f : Device MemBlocks) (old new : TargetValue B) (call : Call)
    (reply : ReplyValue) : Type 0 where
  pub session : new.at.session ≡ old.at.session
  pub serial : new.at.serial ≡ old.at.serial + 1
  pub step : IsStep d.claims (state_of d.contents old.unit) (state_of d.contents new.unit)
      (entry_of old.at.session old.at.serial old.at.by call.asked call.bytes reply (state_of d.contents new.unit)) reply
  pub fine : Tells (failures_of d.failures never_unopened never_unsaved old.unit)
      (failures_of d.failures never_unopened never_unsaved new.unit)
      (IsFine (choice_of reply (d.contents new.unit.device) new.unit.control.lasting))
  pub counted : AreCounted (counters_of d.reads_failed d.writes_failed never_unopened never_unsaved old.unit)
      (counters_of d.reads_failed d.writes_failed never_unopened never_unsaved new.unit)
      (choice_of reply (d.contents new.unit.device) new.unit.control.lasting)
  pub kept : owner_of new.unit.control.access ≢ owner_of old.unit.control.access → new.unit.device ≡ old.unit.device
  pub lasting : IsLasting d f old new call reply

-- nothing happened to the unit
pub record IsSame {B : Type 0} (old new : TargetValue B) : Type 0 where
  pub session : new.at.session ≡ old.at.session
  pub serial : new.at.serial ≡ old.at.serial
  pub unit : new.unit ≡ old.unit

-- What one step of the target's unit leaves.
abbrev pub IsStepped : {B : Type 0} → Device B → Device MemBlocks → TargetValue B → Call → StepEnd → TargetValue B → Type 0
IsStepped d f old call (ends.Reply reply) new = IsCommand d f old new call reply
IsStepped d f old call ends.Gone new =
    IsSame old new × (IsNext old.unit.control old.at.session old.at.serial → ⊥)
IsStepped d f old call (ends.Moved owner) new =
    IsSame old new × (old.at.by ≢ owner_of old.unit.control.access) × (new.at.by ≡ owner_of new.unit.control.access)
IsStepped d f old call ends.NoMemory new = IsSame old new × TakesMemory old.unit.control (request_of old call)

-- What such a step leaves that is made once more by the owner where it came by another group.
abbrev pub IsOwnStep : {B : Type 0} → Device B → Device MemBlocks → TargetValue B → Call → StepEnd → TargetValue B → Type 0
IsOwnStep {B} d f old call (ends.Reply reply) new =
    (by_owner : TargetValue B) × IsSame old by_owner × IsCommand d f by_owner new call reply
IsOwnStep d f old call ends.Gone new =
    IsSame old new × (IsNext old.unit.control old.at.session old.at.serial → ⊥)
IsOwnStep d f old call (ends.Moved owner) new = ⊥
IsOwnStep d f old call ends.NoMemory new = IsSame old new × TakesMemory old.unit.control (request_of old call)

-- There was no memory for the data of a reply: of the unit, or of one that is not there.
abbrev pub IsBusy : ControlValue → ℕ → Call → Type 0
IsBusy c session call =
    ((call.unit ≡ Some 0) × TakesMemory c (request session call.asked call.bytes))
    ⊎ ((call.unit ≢ Some 0) × ((absent_reply call.asked).status ≡ Good))

-- What the target answers to a command: of its unit a command's step; that there was no memory for it, or that its
-- session is gone, which tells the first of these facts, and nothing happened; of another unit that it is not there.
abbrev pub IsTargetAnswer : {B : Type 0} → Type 0 → Device B → Device MemBlocks → TargetValue B → Call → TargetAnswer
    → TargetValue B → Type 0
IsTargetAnswer {B} late d f old call (Replied reply) new =
    (call.unit ≡ Some 0) × (by_owner : TargetValue B) × IsSame old by_owner × IsCommand d f by_owner new call reply
IsTargetAnswer late d f old call (Outside reply) new =
    (call.unit ≢ Some 0) × (reply ≡ absent_reply call.asked) × IsSame old new
IsTargetAnswer late d f old call Busy new = IsBusy old.unit.control old.at.session call × IsSame old new
IsTargetAnswer late d f old call Gone new = (call.unit ≡ Some 0) × IsSame old new × late

-- what is answered for a unit that is not there: that it is not, or that there was no memory to tell it
abbrev pub IsAbsent : Result ScsiCommand CdbFault → TargetAnswer → Type 0
IsAbsent asked (Replied reply) = ⊥
IsAbsent asked (Outside reply) = reply ≡ absent_reply asked
IsAbsent asked Busy = (absent_reply asked).status ≡ Good
IsAbsent asked Gone = ⊥

-- The session reset the unit, which its other sessions are to be told. Its devices are as they were.
pub record IsReset {B : Type 0} (old new : TargetValue B) : Type 0 where
  pub session : new.at.session ≡ old.at.session
  pub possible : IsAttached old.unit.control old.at.session
  pub control : new.unit.control ≡ control_after old.unit.control (Reset old.at.session)
  pub device : new.unit.device ≡ old.unit.device
  pub file : new.unit.file ≡ old.unit.file

-- What the target answers to a reset: its unit was reset; its session is gone, which tells the first of these facts, and
-- nothing happened; of another unit that it failed.
abbrev pub IsResetBy : {B : Type 0} → Type 0 → TargetValue B → ℕ → ResetAnswer → TargetValue B → Type 0
IsResetBy late old unit resets.Done new = (unit ≡ 0) × IsReset old new
IsResetBy late old unit resets.Gone new = (unit ≡ 0) × IsSame old new × late
IsResetBy late old unit resets.Failed new = (unit ≢ 0) × IsSame old new

-- Where a question with its answer leads the target. Its session was attached before it asks anything and stays so:
-- no other session begins or lives, and it is gone only where the history has its last length.
abbrev pub LeadsOn : {B : Type 0} → Device B → Device MemBlocks → TargetValue B → Asking → TargetValue B → Type 0
LeadsOn d f old (began port kind answer) new = (answer ≡ Refused) × IsSame old new
LeadsOn d f old (lives tsih port answer) new = (answer ≡ false) × IsSame old new
LeadsOn d f old (served unit asked bytes answer) new = IsTargetAnswer (last_length ≤ old.unit.control.count) d f old
    (record { unit = unit; asked = asked; bytes = bytes }) answer new
LeadsOn d f old (reset unit answer) new = IsResetBy (last_length ≤ old.unit.control.count) old unit answer new
LeadsOn d f old over new = IsSame old new
