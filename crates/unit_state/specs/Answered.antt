-- What a command comes to at its unit before its session and the history count it: what it leaves, what its reply tells, and
-- when there is none. Each is said of the unit before the command and behind it, and of the rule that refused it, if one did.
use Rattle.std.specs.Prelude.{◌≡◌, ◌≢◌, ◌++◌, ◌&&◌, ℕ, false, IsTrue, Option, None}
use Rattle.access_states.specs.AccessMap.{owner_of}
use Rattle.aptpl_file.specs.Lasts.{LastsAmong, StopLeavesOneOf}
use Rattle.block_file.specs.Failures.{Tells}
use Rattle.block_file.specs.declared.blocks.Blocks as device
use Rattle.block_file.specs.declared.opener.Opener as opening
use Rattle.scsi_types.specs.ReplyValue.{ReplyValue}
use Rattle.unit_control.specs.declared.refusal.Refusal.{Refusal}
use Rattle.unit_control.specs.Answer.{IsAnswerWith, Lasts}
use Rattle.unit_control.specs.Choice.{IsFine, choice_of}
use Rattle.unit_control.specs.Counts.{AreCounted, counters_of}
use Rattle.unit_control.specs.Crash.{HoldsAsBefore, LeavesAmong, holds_with, saved_with}
use Rattle.unit_control.specs.Medium.{work_asked}
use Rattle.unit_control.specs.Places.{Stays}
use Rattle.unit_control.specs.Refusal.{Request}
use Rattle.unit_control.specs.State.{ControlValue, UnitValue, failures_of, state_of}
use Rattle.unit_state.specs.Step.{MayTake, WhereRefused, opens_with, saves_with, works_with}
use Rattle.unit_state.specs.declared.devices.UnitDevices.{UnitDevices}

-- the unit of these devices and this control
abbrev pub unit_over : {B R O : Type 0} → UnitDevices B R O → ControlValue → UnitValue B R O
unit_over d c = record { device = d.device; opener = d.opener; file = d.file; control = c }

-- There is no reply, since there was no memory for its data: nothing has changed, and the command is one that no rule refuses
-- and whose reply has data. Those above make the status BUSY of it (SAM-5, 5.3.1).
pub record LacksMemory {B R O : Type 0} (refused : Option Refusal) (r : Request) (old new : UnitValue B R O) : Type 0 where
  pub unchanged : new ≡ old
  pub unrefused : refused ≡ None
  pub takes : MayTake r.asked

module _ {B R O : Type 0} (blocks : device.Ghosts B) (registrations : device.Ghosts R) (opens : opening.Ghosts O B) where
  -- What is left of the unit, whether or not there is a reply; the session is at this place among those that are attached.
  pub record HasLeft (refused : Option Refusal) (r : Request) (at : ℕ) (old new : UnitValue B R O) : Type 0 where
    -- the medium has as many logical blocks (SBC-3, READ CAPACITY)
    pub size : blocks.size new.device ≡ blocks.size old.device
    -- the session keeps its place, and neither it nor the history has counted the command yet
    pub stays : Stays old.control new.control r.session at
    -- a power loss leaves one of the records of registrations that the unit then says (SPC-4, 5.13.5: APTPL)
    pub kept : IsTrue registrations.claims
        → LastsAmong registrations.size registrations.may_hold old.file old.control.lasting
        → LastsAmong registrations.size registrations.may_hold new.file new.control.lasting
    -- a command that a rule refuses, as one with CHECK CONDITION or RESERVATION CONFLICT (SAM-5, 5.3.1), reaches no medium
    pub unreached : WhereRefused refused (new.device ≡ old.device)
    -- nor does one that neither works on it (SBC-3: READ, WRITE, COMPARE AND WRITE, SYNCHRONIZE CACHE) nor changes the owner
    pub idle : works_with refused r ≡ false → opens_with refused old.control r ≡ false → new.device ≡ old.device
    -- the blocks are opened anew for SET TARGET PORT GROUPS alone, where it changes the owner (SPC-4, 6.45)
    pub unopened : opens_with refused old.control r ≡ false → new.opener ≡ old.opener
    -- registrations are saved for PERSISTENT RESERVE OUT alone (SPC-4, 6.16)
    pub unsaved : saves_with refused r ≡ false → new.file ≡ old.file
    -- where another group is active/optimized then (SPC-4, 5.15.2), the blocks were opened for it
    pub opened : owner_of new.control.access ≢ owner_of old.control.access → opens.opened old.device new.device
    -- blocks on which the command does not work, opened anew or not, are the same after a power loss
    pub same : works_with refused r ≡ false → IsTrue opens.claims
        → HoldsAsBefore blocks.moment blocks.left_since blocks.may_hold old.device new.device
    -- a power loss inside the command leaves a record of registrations that the unit said before, or the one that it saves
    pub stop : IsTrue registrations.claims → IsTrue registrations.claims_moments
        → LastsAmong registrations.size registrations.may_hold old.file old.control.lasting
        → StopLeavesOneOf registrations.moment registrations.left_since (saved_with refused old.control r ++ old.control.lasting)
        old.file.device new.file.device

  -- What the reply tells: its status, its sense and its data.
  pub record HasReplied (refused : Option Refusal) (r : Request) (old new : UnitValue B R O) (reply : ReplyValue) : Type 0 where
    -- it is what the model gives for the choice that its sense tells, and so is what is left; the blocks and the data of a READ
    -- too, where the types claim them
    pub answered : IsAnswerWith (opens.claims && blocks.claims) (state_of blocks.contents old) (state_of blocks.contents new)
        r refused (choice_of reply (blocks.contents new.device) new.control.lasting) reply
    -- its sense tells of each failure that was counted, and of no other: of a read (03 11/00) and of a write or a flush
    -- (03 0C/00) (SBC-3, MEDIUM ERROR), of an open (SPC-4, SET TARGET PORT GROUPS COMMAND FAILED), and of a save (SPC-4,
    -- INTERNAL TARGET FAILURE)
    pub counted : AreCounted
        (counters_of blocks.reads_failed blocks.writes_failed opens.opens_failed registrations.failures old)
        (counters_of blocks.reads_failed blocks.writes_failed opens.opens_failed registrations.failures new)
        (choice_of reply (blocks.contents new.device) new.control.lasting)
    -- it tells of none exactly where none was counted
    pub fine : Tells (failures_of blocks.failures opens.opens_failed registrations.failures old)
        (failures_of blocks.failures opens.opens_failed registrations.failures new)
        (IsFine (choice_of reply (blocks.contents new.device) new.control.lasting))
    -- after GOOD of a SYNCHRONIZE CACHE or of a command with FUA (SBC-3) a power loss leaves the blocks as they are, and after
    -- a READ with FUA whose read failed
    pub lasts : IsTrue blocks.claims
        → Lasts (blocks.contents new.device) (blocks.may_hold new.device) (work_asked r.asked r.bytes) reply
    -- a power loss behind the command, and one inside it, leaves each block as it might have left it before, or, in a range
    -- that was written, as it was written
    pub left : IsTrue (opens.claims && blocks.claims) → LeavesAmong blocks.claims_moments blocks.moment blocks.left_since
        blocks.size blocks.may_hold
        (holds_with refused (blocks.contents old.device) (work_asked r.asked r.bytes)
        (choice_of reply (blocks.contents new.device) new.control.lasting) (blocks.may_hold old.device))
        old.device new.device
