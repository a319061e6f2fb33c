-- What a command is answered, as a value (SAM-5, 5.3.1 and 5.14).
use Rattle.std.specs.Prelude.{ℕ, Bool, true, false, List, [], ◌∷◌, Option, Some, None}
use Rattle.scsi_types.specs.declared.status.Status.{Status}
use Rattle.scsi_types.specs.declared.status.Status.TheVariants.{Good, CheckCondition, Busy, ReservationConflict, TaskSetFull}
use Rattle.scsi_types.specs.declared.sense.Sense.{Sense}

-- a command's status, its sense and its data
pub record ReplyValue : Type 0 where
  pub status : Status
  pub sense : Option Sense
  pub bytes : List ℕ

abbrev pub good : List ℕ → ReplyValue
good bytes = record { status = Good; sense = None; bytes = bytes }

abbrev pub check : Sense → ReplyValue
check s = record { status = CheckCondition; sense = Some s; bytes = [] }

abbrev pub conflict : ReplyValue
conflict = record { status = ReservationConflict; sense = None; bytes = [] }

-- the form of a unit's reply: GOOD, CHECK CONDITION or RESERVATION CONFLICT; sense with CHECK CONDITION alone, data
-- with GOOD alone
abbrev pub is_formed : Status → Option Sense → List ℕ → Bool
is_formed Good None bytes = true
is_formed Good (Some s) bytes = false
is_formed CheckCondition (Some s) [] = true
is_formed CheckCondition (Some s) (b ∷ bytes) = false
is_formed CheckCondition None bytes = false
is_formed ReservationConflict None [] = true
is_formed ReservationConflict None (b ∷ bytes) = false
is_formed ReservationConflict (Some s) bytes = false
is_formed Busy sense bytes = false
is_formed TaskSetFull sense bytes = false
