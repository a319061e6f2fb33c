-- What the devices did in a command.
use Rattle.std.specs.Prelude.{◌==◌, ◌&&◌, Bool, true, false, IsTrue, if◌then◌else◌, List, [], ◌∷◌, ℕ, Option, Some, None}
use Rattle.scsi_types.specs.ReplyValue.{ReplyValue}
use Rattle.registrants.specs.Registry.{RecordValue}
use Rattle.scsi_types.specs.Sense.{internal_target_failure, set_target_port_groups_command_failed, unrecovered_read_error, write_error}
use Rattle.scsi_types.specs.declared.sense.Sense.{Sense}

-- they served all calls; a read failed; a write or a flush failed and the unit has these blocks after it; the blocks could
-- not be opened for another controller; what is to outlast a loss of power could not be saved, and a crash leaves one of
-- these records after it
pub data Choice : Type 0 where
  Fine : Choice
  ReadFailed : Choice
  WriteFailed : List (List ℕ) → Choice
  OpenFailed : Choice
  SaveFailed : List RecordValue → Choice

abbrev pub is_fine : Choice → Bool
is_fine Fine = true
is_fine ReadFailed = false
is_fine (WriteFailed after) = false
is_fine OpenFailed = false
is_fine (SaveFailed after) = false

abbrev pub IsFine : Choice → Type 0
IsFine choice = IsTrue (is_fine choice)

-- one sense key and additional sense code
abbrev pub same_code : Sense → Sense → Bool
same_code s t = (s.key == t.key) && (s.asc == t.asc) && (s.ascq == t.ascq)

-- The choice that a reply tells, with the blocks that are there after it and the records of which a crash leaves one:
-- MEDIUM ERROR tells of a failure of the medium, SET TARGET PORT GROUPS COMMAND FAILED of one of the opener, and INTERNAL
-- TARGET FAILURE of one of the registration file.
abbrev pub failures_told : List (List ℕ) → List RecordValue → List (Sense × Choice)
failures_told after lasting =
    (unrecovered_read_error, ReadFailed)
    ∷ (write_error, WriteFailed after)
    ∷ (set_target_port_groups_command_failed, OpenFailed)
    ∷ (internal_target_failure, SaveFailed lasting)
    ∷ []

-- any other sense tells of no failure
abbrev pub choice_in : List (Sense × Choice) → Sense → Choice
choice_in [] s = Fine
choice_in (row ∷ rows) s = if same_code s row.0 then row.1 else choice_in rows s

abbrev pub choice_by : Option Sense → List (List ℕ) → List RecordValue → Choice
choice_by None after lasting = Fine
choice_by (Some s) after lasting = choice_in (failures_told after lasting) s

abbrev pub choice_of : ReplyValue → List (List ℕ) → List RecordValue → Choice
choice_of reply after lasting = choice_by reply.sense after lasting
