-- What a command is answered before its session and the history count it.
use Rattle.std.specs.Prelude.{◌≡◌, ℕ, Bool, IsTrue, List, Ok, Option}
use Rattle.scsi_types.specs.ReplyValue.{ReplyValue, check}
use Rattle.scsi_types.specs.Sense.{unrecovered_read_error}
use Rattle.block_file.specs.Disk.{Only}
use Rattle.scsi_types.specs.declared.status.Status.TheVariants.{Good}
use Rattle.scsi_types.specs.declared.command.Command.{Command}
use Rattle.unit_control.specs.declared.refusal.Refusal.{Refusal}
use Rattle.unit_control.specs.State.{UnitState}
use Rattle.unit_control.specs.Choice.{Choice, choice_of}
use Rattle.unit_control.specs.Medium.{Work, Finding, MayFind, IsTorn, found, left, is_flushed, is_flushed_first, work_asked, work_of}
use Rattle.unit_control.specs.Refusal.{Request, refusal}
use Rattle.unit_control.specs.Entry.{CanChoose, CanTear, MayCome, IsReplyWith, control_with, blocks_with, left_by, returned_by}

-- what a command with this refusal, if any, is answered, and what it then leaves
pub record IsAnswerWith (claims : Bool) (old new : UnitState) (r : Request) (refused : Option Refusal) (choice : Choice)
    (reply : ReplyValue) : Type 0 where
  pub chosen : CanChoose refused old.control r choice
  pub torn : IsTrue claims → CanTear refused old.blocks (work_asked r.asked r.bytes) choice
  pub control : new.control ≡ control_with refused old.control r choice
  pub blocks : IsTrue claims → new.blocks ≡ blocks_with refused old.blocks (work_asked r.asked r.bytes) choice
  pub answer : IsReplyWith refused claims old r choice reply

abbrev pub IsAnswer : Bool → UnitState → UnitState → Request → ReplyValue → Type 0
IsAnswer claims old new r reply =
    IsAnswerWith claims old new r (refusal old.control r) (choice_of reply new.blocks new.control.lasting) reply

-- a command that no rule refuses did what it asks, came to this choice, and is answered so
pub record IsServedSo (claims : Bool) (old new : UnitState) (session : ℕ) (command : Command) (bytes : List ℕ)
    (choice : Choice) (reply : ReplyValue) : Type 0 where
  pub finding : Finding
  pub chosen : MayCome old.control session (Ok command) bytes choice
  pub may : MayFind (work_of command bytes) choice finding
  pub torn : IsTrue claims → IsTorn old.blocks (work_of command bytes) choice
  pub told : IsTrue claims → finding ≡ found old.blocks (work_of command bytes) choice
  pub leaves : IsTrue claims → new.blocks ≡ left old.blocks (work_of command bytes) choice
  pub control : new.control ≡ left_by old.control session command bytes choice
  pub answers : reply ≡ returned_by old.control session command bytes finding

abbrev pub IsPerformed : Bool → UnitState → UnitState → ℕ → Command → List ℕ → ReplyValue → Type 0
IsPerformed claims old new session command bytes reply =
    IsServedSo claims old new session command bytes (choice_of reply new.blocks new.control.lasting) reply

-- After GOOD of a work with a flush a crash leaves the blocks that the unit holds, and after a read that failed behind its
-- flush.
pub record Lasts (blocks : List (List ℕ)) (may_hold : ℕ → List ℕ → Type 0) (work : Work) (reply : ReplyValue) : Type 0 where
  pub good : reply.status ≡ Good → IsTrue (is_flushed work) → Only blocks may_hold
  pub unread : reply ≡ check unrecovered_read_error → IsTrue (is_flushed_first work) → Only blocks may_hold
