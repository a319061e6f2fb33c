-- What becomes of a unit's devices in a call: what they count as failed, what a crash leaves of them, and for whom they are
-- opened. It is said of the unit before the call and behind it, in the words of the unit's own promises (`unit_state`).
use Rattle.std.specs.Prelude.{◌≡◌, ◌≢◌, ◌++◌, ◌&&◌, ℕ, Bool, false, IsTrue, List, Result, OnOk}
use Rattle.access_states.specs.AccessMap.{owner_of}
use Rattle.access_states.specs.declared.change.Change.{Change}
use Rattle.aptpl_file.specs.Lasts.{EachOutcomeHolds, StopLeavesOneOf}
use Rattle.block_file.specs.Disk.{Only}
use Rattle.block_file.specs.Failures.{Counts}
use Rattle.block_file.specs.declared.blocks.Blocks as device
use Rattle.block_file.specs.declared.blocks.DeviceFailed.{DeviceFailed}
use Rattle.block_file.specs.declared.opener.Opener as opening
use Rattle.scsi_types.specs.ReplyValue.{ReplyValue}
use Rattle.scsi_types.specs.declared.command.Command.{Command as ScsiCommand}
use Rattle.scsi_types.specs.declared.command.CdbFault.{CdbFault}
use Rattle.unit_control.specs.Answer.{Lasts}
use Rattle.unit_control.specs.Choice.{choice_of}
use Rattle.unit_control.specs.Counts.{AreCounted, Counters, counters_of}
use Rattle.unit_control.specs.Crash.{HoldsAsBefore, LeavesAmong, holds_with, saved_with}
use Rattle.unit_control.specs.Medium.{work_asked}
use Rattle.unit_state.specs.Moves.{choice_of_move}
use Rattle.unit_control.specs.Refusal.{Request, refusal, request}
use Rattle.unit_control.specs.State.{UnitValue, failures_of}
use Rattle.unit_state.specs.Step.{WhereRefused, asks_file, asks_medium, asks_opener}
use Rattle.unit_state.specs.declared.unit.MoveFault.{MoveFault}

-- What the devices of a unit say of themselves, by the names of their traits: that of its blocks, that of its registration
-- file, and the opener.
pub record Devices (B R O : Type 0) : Type 1 where
  pub blocks : device.Ghosts B
  pub file : device.Ghosts R
  pub opener : opening.Ghosts O B

abbrev pub devices : {B R O : Type 0} → device.Ghosts B → device.Ghosts R → opening.Ghosts O B → Devices B R O
devices blocks file opener = record { blocks = blocks; file = file; opener = opener }

module _ {B R O : Type 0} (d : Devices B R O) where
  -- both the blocks' device and the opener claim what is said of a disk
  abbrev pub claims_of : Bool
  claims_of = d.opener.claims && d.blocks.claims

  abbrev pub counters_at : UnitValue B R O → Counters
  counters_at u = counters_of d.blocks.reads_failed d.blocks.writes_failed d.opener.opens_failed d.file.failures u

  -- where another group owns the unit then, its device was opened for it
  abbrev pub IsOpened : UnitValue B R O → UnitValue B R O → Type 0
  IsOpened old new = owner_of new.control.access ≢ owner_of old.control.access → d.opener.opened old.device new.device

  -- What becomes of them in a command that is replied to.
  pub record HaveWorked (session : ℕ) (asked : Result ScsiCommand CdbFault) (bytes : List ℕ) (reply : ReplyValue)
      (old new : UnitValue B R O) : Type 0 where
    -- each has counted a failure exactly where the reply tells of it: a read, a write or a flush, an open, a save
    pub counted : AreCounted (counters_at old) (counters_at new)
        (choice_of reply (d.blocks.contents new.device) new.control.lasting)
    -- after GOOD of a SYNCHRONIZE CACHE or of a command with FUA a crash leaves the blocks that the unit holds
    pub lasts : IsTrue d.blocks.claims
        → Lasts (d.blocks.contents new.device) (d.blocks.may_hold new.device) (work_asked asked bytes) reply
    -- a crash behind it, and a stop inside it, leaves of each block what it might have left before, or what was written there
    pub left : IsTrue claims_of → LeavesAmong d.blocks.claims_moments d.blocks.moment d.blocks.left_since d.blocks.size
        d.blocks.may_hold (holds_with (refusal old.control (request session asked bytes)) (d.blocks.contents old.device)
        (work_asked asked bytes) (choice_of reply (d.blocks.contents new.device) new.control.lasting)
        (d.blocks.may_hold old.device)) old.device new.device
    pub same : asks_medium old.control (request session asked bytes) ≡ false → IsTrue d.opener.claims
        → HoldsAsBefore d.blocks.moment d.blocks.left_since d.blocks.may_hold old.device new.device
    -- a crash leaves one of the records of registrations that the unit then says, a stop inside one of those before, or the one
    -- that is saved
    pub restart : IsTrue d.file.claims
        → EachOutcomeHolds (d.file.size new.file.device) (d.file.may_hold new.file.device) new.control.lasting
    pub stop : IsTrue d.file.claims → IsTrue d.file.claims_moments → StopLeavesOneOf d.file.moment d.file.left_since
        (saved_with (refusal old.control (request session asked bytes)) old.control (request session asked bytes)
        ++ old.control.lasting) old.file.device new.file.device
    -- a command that a rule refuses does not reach the blocks; no other than PERSISTENT RESERVE OUT reaches the file
    pub unreached : WhereRefused (refusal old.control (request session asked bytes)) (new.device ≡ old.device)
    pub unsaved : asks_file old.control (request session asked bytes) ≡ false → new.file ≡ old.file
    pub unopened : asks_opener old.control (request session asked bytes) ≡ false → new.opener ≡ old.opener
    pub opened : IsOpened old new

  -- What becomes of them as the unit moves, or does not.
  pub record HaveMoved (old new : UnitValue B R O) (end : Result Change MoveFault) : Type 0 where
    pub counted : AreCounted (counters_at old) (counters_at new) (choice_of_move end)
    pub same : IsTrue d.opener.claims → HoldsAsBefore d.blocks.moment d.blocks.left_since d.blocks.may_hold old.device new.device
    pub file : new.file ≡ old.file
    pub opened : IsOpened old new

  -- What becomes of them in a flush: it fails exactly where a failure was counted, and done it leaves the blocks that the unit
  -- holds.
  pub record HaveFlushed (old new : UnitValue B R O) (end : Result (Unit {0}) DeviceFailed) : Type 0 where
    pub counted : Counts (failures_of d.blocks.failures d.opener.opens_failed d.file.failures old)
        (failures_of d.blocks.failures d.opener.opens_failed d.file.failures new) end
    pub lasts : IsTrue d.blocks.claims → OnOk end (Only (d.blocks.contents new.device) (d.blocks.may_hold new.device))
    pub left : IsTrue d.blocks.claims → LeavesAmong d.blocks.claims_moments d.blocks.moment d.blocks.left_since d.blocks.size
        d.blocks.may_hold (d.blocks.may_hold old.device) old.device new.device
