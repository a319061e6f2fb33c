-- What a power loss may leave of a unit's devices: after a command, and inside it.
use Rattle.std.specs.Prelude.{◌≡◌, ℕ, Bool, IsTrue, List, [], ◌∷◌, Option, Some, None, Result, Ok, Err}
use Rattle.block_file.specs.Cut.{cut}
use Rattle.block_file.specs.Disk.{HoldsTheSame, NoMore, or_new}
use Rattle.block_file.specs.Moment.{LeavesTheSame, StopsAmong}
use Rattle.compare_write.specs.Instances.{write_instance}
use Rattle.registrants.specs.Registry.{RecordValue, to_last}
use Rattle.reservations.specs.Table.{Effect, Done, Conflicting, Refused}
use Rattle.scsi_types.specs.declared.command.Command.{Command}
use Rattle.scsi_types.specs.declared.command.Command.TheVariants as commands
use Rattle.scsi_types.specs.declared.command.CdbFault.{CdbFault}
use Rattle.unit_control.specs.declared.refusal.Refusal.{Refusal}
use Rattle.unit_control.specs.Choice.{Choice, Fine, ReadFailed, WriteFailed, OpenFailed, SaveFailed}
use Rattle.unit_control.specs.Medium.{Work, Range, Nothing, Reads, Writes, Compares, Flushes, difference_in}
use Rattle.unit_control.specs.Refusal.{Request}
use Rattle.unit_control.specs.Reserve.{effect_by, pr_out}
use Rattle.unit_control.specs.State.{ControlValue}

-- ---- the blocks

-- a compare writes its range only where it finds no difference
abbrev pub holds_compared : Option ℕ → Range → List ℕ → (ℕ → List ℕ → Type 0) → ℕ → List ℕ → Type 0
holds_compared None r bytes may_hold = or_new r.lba (write_instance r.blocks bytes) may_hold
holds_compared (Some at) r bytes may_hold = may_hold

-- What each block may hold after a work on these blocks that came to this choice: what it might hold before, and in a range
-- that was written the new block beside.
abbrev pub holds_after : List (List ℕ) → Work → Choice → (ℕ → List ℕ → Type 0) → ℕ → List ℕ → Type 0
holds_after blocks Nothing choice may_hold = may_hold
holds_after blocks (Reads r flushed) choice may_hold = may_hold
holds_after blocks (Writes r bytes flushed) choice may_hold = or_new r.lba (cut r.blocks bytes) may_hold
holds_after blocks (Compares r bytes flushed) Fine may_hold =
    holds_compared (difference_in blocks r bytes) r bytes may_hold
holds_after blocks (Compares r bytes flushed) ReadFailed may_hold = may_hold
holds_after blocks (Compares r bytes flushed) (WriteFailed after) may_hold =
    or_new r.lba (write_instance r.blocks bytes) may_hold
holds_after blocks (Compares r bytes flushed) OpenFailed may_hold = may_hold
holds_after blocks (Compares r bytes flushed) (SaveFailed records) may_hold = may_hold
holds_after blocks (Flushes r) choice may_hold = may_hold

-- a command that a rule refuses writes nothing
abbrev pub holds_with : Option Refusal → List (List ℕ) → Work → Choice → (ℕ → List ℕ → Type 0) → ℕ → List ℕ → Type 0
holds_with (Some refused) blocks work choice may_hold = may_hold
holds_with None blocks work choice may_hold = holds_after blocks work choice may_hold

-- A crash after some calls of a device leaves each block with one of these values; and so does a stop anywhere inside them,
-- where the type claims moments.
pub record LeavesAmong {D : Type 0} (claims_moments : Bool) (moment : D → ℕ) (left_since : D → ℕ → List (List ℕ) → Type 0)
    (size : D → ℕ) (may_hold : D → ℕ → List ℕ → Type 0) (values : ℕ → List ℕ → Type 0) (old new : D) : Type 0 where
  pub crash : NoMore values (may_hold new)
  pub stop : IsTrue claims_moments → StopsAmong moment left_since size values old new

-- A crash of the second device, now or at any moment since an earlier one, leaves just what one of the first does.
pub record HoldsAsBefore {D : Type 0} (moment : D → ℕ) (left_since : D → ℕ → List (List ℕ) → Type 0)
    (may_hold : D → ℕ → List ℕ → Type 0) (old new : D) : Type 0 where
  pub same_moment : moment new ≡ moment old
  pub crash : HoldsTheSame (may_hold old) (may_hold new)
  pub time : LeavesTheSame (left_since old) (left_since new)

-- ---- the registrations

-- the record that a PERSISTENT RESERVE OUT saves, where its row of the table is GOOD
abbrev pub saved_by : Effect → List RecordValue
saved_by (Done registry told) = to_last registry ∷ []
saved_by Conflicting = []
saved_by (Refused asc ascq) = []

-- no other command saves one
abbrev pub saved_of : ControlValue → ℕ → Command → List ℕ → List RecordValue
saved_of c session (commands.PersistentReserveOut action scope kind list_length) bytes =
    saved_by (effect_by c session (pr_out action scope kind bytes))
saved_of c session commands.TestUnitReady bytes = []
saved_of c session (commands.RequestSense allocation) bytes = []
saved_of c session (commands.Inquiry page allocation) bytes = []
saved_of c session (commands.ModeSense header control page allocation) bytes = []
saved_of c session commands.ReadCapacity10 bytes = []
saved_of c session (commands.ReadCapacity16 allocation) bytes = []
saved_of c session (commands.Read lba blocks fua) bytes = []
saved_of c session (commands.Write lba blocks fua) bytes = []
saved_of c session (commands.CompareAndWrite lba blocks fua) bytes = []
saved_of c session (commands.SynchronizeCache lba blocks) bytes = []
saved_of c session (commands.PersistentReserveIn action allocation) bytes = []
saved_of c session (commands.ReportLuns select allocation) bytes = []
saved_of c session (commands.ReportTargetPortGroups allocation) bytes = []
saved_of c session (commands.SetTargetPortGroups list_length) bytes = []

abbrev pub saved_asked : ControlValue → ℕ → Result Command CdbFault → List ℕ → List RecordValue
saved_asked c session (Ok command) bytes = saved_of c session command bytes
saved_asked c session (Err fault) bytes = []

-- nor one that a rule refuses
abbrev pub saved_with : Option Refusal → ControlValue → Request → List RecordValue
saved_with (Some refused) c r = []
saved_with None c r = saved_asked c r.session r.asked r.bytes
