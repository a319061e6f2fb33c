-- What a command is to the medium, and what that finds and leaves (SBC-3, READ, WRITE, COMPARE AND WRITE and SYNCHRONIZE
-- CACHE commands).
use Rattle.std.specs.Prelude.{◌≡◌, ◌⊎◌, ℕ, ◌+◌, ◌*◌, ◌<◌, ◌≤◌, Bool, false, true, IsTrue, nat_lt, List, [], length}
use Rattle.std.specs.Prelude.{Option, Some, None, is_some, Result, Ok, Err}
use Rattle.identity.specs.Capacity.{block_length}
use Rattle.block_file.specs.Cut.{cut}
use Rattle.block_file.specs.Disk.{written, range_bytes, Between}
use Rattle.compare_write.specs.Difference.{first_difference}
use Rattle.compare_write.specs.Instances.{compare_instance, write_instance}
use Rattle.scsi_types.specs.ReplyValue.{ReplyValue, good, check}
use Rattle.scsi_types.specs.Sense.{internal_target_failure, set_target_port_groups_command_failed}
use Rattle.scsi_types.specs.Sense.{unrecovered_read_error, write_error, miscompare}
use Rattle.scsi_types.specs.declared.command.Command.{Command}
use Rattle.scsi_types.specs.declared.command.Command.TheVariants as commands
use Rattle.scsi_types.specs.declared.command.CdbFault.{CdbFault}
use Rattle.scsi_types.specs.Cdb.{most_blocks, most_compared}
use Rattle.unit_control.specs.Choice.{Choice, Fine, ReadFailed, WriteFailed, OpenFailed, SaveFailed}

-- the blocks of a command: the first, and how many
pub record Range : Type 0 where
  pub lba : ℕ
  pub blocks : ℕ

-- Nothing; a read of a range; a write of these bytes over it; a compare of it with a first half of these bytes, and
-- a write of the second; a flush. The last of each tells whether there is a flush: before the read, behind the write.
pub data Work : Type 0 where
  Nothing : Work
  Reads : Range → Bool → Work
  Writes : Range → List ℕ → Bool → Work
  Compares : Range → List ℕ → Bool → Work
  Flushes : Range → Work

-- the work of a command with this data: here alone the range of each is named
abbrev pub work_of : Command → List ℕ → Work
work_of (commands.Read lba blocks fua) bytes = Reads (record { lba = lba; blocks = blocks }) fua
work_of (commands.Write lba blocks fua) bytes = Writes (record { lba = lba; blocks = blocks }) bytes fua
work_of (commands.CompareAndWrite lba blocks fua) bytes = Compares (record { lba = lba; blocks = blocks }) bytes fua
work_of (commands.SynchronizeCache lba blocks) bytes = Flushes (record { lba = lba; blocks = blocks })
work_of commands.TestUnitReady bytes = Nothing
work_of (commands.RequestSense allocation) bytes = Nothing
work_of (commands.Inquiry page allocation) bytes = Nothing
work_of (commands.ModeSense header control page allocation) bytes = Nothing
work_of commands.ReadCapacity10 bytes = Nothing
work_of (commands.ReadCapacity16 allocation) bytes = Nothing
work_of (commands.PersistentReserveIn action allocation) bytes = Nothing
work_of (commands.PersistentReserveOut action scope kind list_length) bytes = Nothing
work_of (commands.ReportLuns select allocation) bytes = Nothing
work_of (commands.ReportTargetPortGroups allocation) bytes = Nothing
work_of (commands.SetTargetPortGroups list_length) bytes = Nothing

abbrev pub work_asked : Result Command CdbFault → List ℕ → Work
work_asked (Ok command) bytes = work_of command bytes
work_asked (Err fault) bytes = Nothing

abbrev pub range_of : Work → Option Range
range_of Nothing = None
range_of (Reads r flushed) = Some r
range_of (Writes r bytes flushed) = Some r
range_of (Compares r bytes flushed) = Some r
range_of (Flushes r) = Some r

-- a work that ends well only with all that was written made to last
abbrev pub is_flushed : Work → Bool
is_flushed Nothing = false
is_flushed (Reads r flushed) = flushed
is_flushed (Writes r bytes flushed) = flushed
is_flushed (Compares r bytes flushed) = flushed
is_flushed (Flushes r) = true

-- a work whose flush comes before its read
abbrev pub is_flushed_first : Work → Bool
is_flushed_first Nothing = false
is_flushed_first (Reads r flushed) = flushed
is_flushed_first (Writes r bytes flushed) = false
is_flushed_first (Compares r bytes flushed) = false
is_flushed_first (Flushes r) = false

-- a work that calls the device: one of a range
abbrev pub is_medium : Work → Bool
is_medium work = is_some (range_of work)

-- a work of more blocks than a command may have
abbrev pub is_too_long : Work → Bool
is_too_long Nothing = false
is_too_long (Reads r flushed) = nat_lt most_blocks r.blocks
is_too_long (Writes r bytes flushed) = nat_lt most_blocks r.blocks
is_too_long (Compares r bytes flushed) = nat_lt most_compared r.blocks
is_too_long (Flushes r) = false

-- the work lies within so many blocks, and its data are there; and a comparison has few enough
abbrev pub Fits : ℕ → Work → Type 0
Fits total Nothing = Unit {0}
Fits total (Reads r flushed) = r.lba + r.blocks ≤ total
Fits total (Writes r bytes flushed) = (r.lba + r.blocks ≤ total) × (block_length * r.blocks ≤ length bytes)
Fits total (Compares r bytes flushed) = (r.lba + r.blocks ≤ total) × (2 * block_length * r.blocks ≤ length bytes)
    × (r.blocks ≤ most_compared)
Fits total (Flushes r) = Unit {0}

-- What a work may come to, of every device: a read may fail where the work reads, a write or a flush where it writes
-- or flushes.
abbrev pub MayChoose : Work → Choice → Type 0
MayChoose work Fine = Unit {0}
MayChoose Nothing ReadFailed = ⊥
MayChoose (Reads r flushed) ReadFailed = Unit {0}
MayChoose (Writes r bytes flushed) ReadFailed = ⊥
MayChoose (Compares r bytes flushed) ReadFailed = Unit {0}
MayChoose (Flushes r) ReadFailed = ⊥
MayChoose Nothing (WriteFailed after) = ⊥
MayChoose (Reads r flushed) (WriteFailed after) = IsTrue flushed
MayChoose (Writes r bytes flushed) (WriteFailed after) = Unit {0}
MayChoose (Compares r bytes flushed) (WriteFailed after) = Unit {0}
MayChoose (Flushes r) (WriteFailed after) = Unit {0}
MayChoose work OpenFailed = ⊥
MayChoose work (SaveFailed records) = ⊥

-- what the devices tell: the work is done, with the bytes that were read; the range differs, first at this offset; or
-- a read failed, or a write or a flush, or the open for another controller, or a save
pub data Finding : Type 0 where
  Done : List ℕ → Finding
  Differs : ℕ → Finding
  ReadError : Finding
  WriteError : Finding
  OpenError : Finding
  SaveError : Finding

-- What may be told of a work, of every device: which bytes a read gives, and whether and where a compare finds a
-- difference, is the medium's to say.
abbrev pub MayFind : Work → Choice → Finding → Type 0
MayFind Nothing Fine finding = finding ≡ Done []
MayFind (Reads r flushed) Fine finding = (bytes : List ℕ) × (finding ≡ Done bytes)
    × (length bytes ≡ block_length * r.blocks)
MayFind (Writes r bytes flushed) Fine finding = finding ≡ Done []
MayFind (Compares r bytes flushed) Fine finding =
    (finding ≡ Done []) ⊎ ((at : ℕ) × (finding ≡ Differs at) × (at < block_length * r.blocks))
MayFind (Flushes r) Fine finding = finding ≡ Done []
MayFind work ReadFailed finding = finding ≡ ReadError
MayFind work (WriteFailed after) finding = finding ≡ WriteError
MayFind work OpenFailed finding = finding ≡ OpenError
MayFind work (SaveFailed records) finding = finding ≡ SaveError

-- ---- a disk with these blocks

-- where the range first differs from the bytes to compare
abbrev pub difference_in : List (List ℕ) → Range → List ℕ → Option ℕ
difference_in blocks r bytes = first_difference (range_bytes blocks r.lba r.blocks) (compare_instance r.blocks bytes)

abbrev pub found_by : Option ℕ → Finding
found_by None = Done []
found_by (Some at) = Differs at

abbrev pub compared_by : Option ℕ → List (List ℕ) → List (List ℕ) → List (List ℕ)
compared_by None old new = new
compared_by (Some at) old new = old

-- what it tells
abbrev pub found : List (List ℕ) → Work → Choice → Finding
found blocks Nothing Fine = Done []
found blocks (Reads r flushed) Fine = Done (range_bytes blocks r.lba r.blocks)
found blocks (Writes r bytes flushed) Fine = Done []
found blocks (Compares r bytes flushed) Fine = found_by (difference_in blocks r bytes)
found blocks (Flushes r) Fine = Done []
found blocks work ReadFailed = ReadError
found blocks work (WriteFailed after) = WriteError
found blocks work OpenFailed = OpenError
found blocks work (SaveFailed records) = SaveError

-- the blocks that it then has: after a failed write or flush those of the choice
abbrev pub left : List (List ℕ) → Work → Choice → List (List ℕ)
left blocks Nothing Fine = blocks
left blocks (Reads r flushed) Fine = blocks
left blocks (Writes r bytes flushed) Fine = written blocks r.lba (cut r.blocks bytes)
left blocks (Compares r bytes flushed) Fine =
    compared_by (difference_in blocks r bytes) blocks (written blocks r.lba (write_instance r.blocks bytes))
left blocks (Flushes r) Fine = blocks
left blocks work ReadFailed = blocks
left blocks work (WriteFailed after) = after
left blocks work OpenFailed = blocks
left blocks work (SaveFailed records) = blocks

-- what it may have after such a failure: each block of a range that is written old or new, and every other as it was;
-- a compare writes only where it found no difference
abbrev pub IsTorn : List (List ℕ) → Work → Choice → Type 0
IsTorn blocks work Fine = Unit {0}
IsTorn blocks work ReadFailed = Unit {0}
IsTorn blocks work OpenFailed = Unit {0}
IsTorn blocks work (SaveFailed records) = Unit {0}
IsTorn blocks Nothing (WriteFailed after) = after ≡ blocks
IsTorn blocks (Reads r flushed) (WriteFailed after) = after ≡ blocks
IsTorn blocks (Writes r bytes flushed) (WriteFailed after) = Between blocks r.lba (cut r.blocks bytes) after
IsTorn blocks (Compares r bytes flushed) (WriteFailed after) =
    (range_bytes blocks r.lba r.blocks ≡ compare_instance r.blocks bytes)
    × Between blocks r.lba (write_instance r.blocks bytes) after
IsTorn blocks (Flushes r) (WriteFailed after) = after ≡ blocks

-- how a command answers what its devices told
abbrev pub reply_by : Finding → ReplyValue
reply_by (Done bytes) = good bytes
reply_by (Differs at) = check (miscompare at)
reply_by ReadError = check unrecovered_read_error
reply_by WriteError = check write_error
reply_by OpenError = check set_target_port_groups_command_failed
reply_by SaveError = check internal_target_failure

-- A device did this work, had these blocks and has those: under the claim the finding is a disk's, and so is what is
-- left.
pub record IsDone (claims : Bool) (old new : List (List ℕ)) (work : Work) (choice : Choice)
    (finding : Finding) : Type 0 where
  pub chosen : MayChoose work choice
  pub may : MayFind work choice finding
  pub torn : IsTrue claims → IsTorn old work choice
  pub told : IsTrue claims → finding ≡ found old work choice
  pub leaves : IsTrue claims → new ≡ left old work choice
