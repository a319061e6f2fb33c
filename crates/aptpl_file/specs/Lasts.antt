-- What a crash may leave of a registration file.
use Rattle.std.specs.Prelude.{◌≡◌, ◌⊎◌, ℕ, ◌+◌, ◌<◌, ◌≤◌, Bool, true, false, List, [], ◌∷◌, ◌++◌}
use Rattle.registrants.specs.Registry.{RecordValue, IsRecord}
use Rattle.block_file.specs.Disk.{MayLeave}
use Rattle.block_file.specs.Moment.{Elapses}
use Rattle.aptpl_format.specs.declared.slot.Slot.{Slot}
use Rattle.aptpl_format.specs.declared.version.FileVersion.{FileVersion}
use Rattle.aptpl_format.specs.declared.version.FileVersion.TheVariants.{Version2}
use Rattle.aptpl_file.specs.declared.fault.SaveFault.{SaveFault}
use Rattle.aptpl_file.specs.declared.fault.SaveFault.TheVariants.{OldRoot, IdleSlot, NewRoot}
use Rattle.aptpl_format.specs.Format.{file_blocks, first_block, other_slot, root_block, slot_block, slot_blocks}
use Rattle.aptpl_file.specs.Holds.{HoldsOneOf}

-- What contracts see of a file: its device as it is, the version and the slot that its root names, and whether a root of
-- version 2 that names the other slot may stand there too.
pub record FileValue (B : Type 0) : Type 0 where
  pub device : B
  pub version : FileVersion
  pub slot : Slot
  pub undecided : Bool

-- ---- what the blocks may hold after a crash

-- whatever a crash leaves of its block, the root names this version and slot
abbrev pub RootLasts : (ℕ → List ℕ → Type 0) → FileVersion → Slot → Type 0
RootLasts may_hold version slot = (value : List ℕ) → may_hold 0 value → value ≡ root_block version slot

-- whatever a crash leaves of its block, the root names this version and slot, or version 2 and the other slot
abbrev pub SomeRootLasts : (ℕ → List ℕ → Type 0) → FileVersion → Slot → Type 0
SomeRootLasts may_hold version slot = (value : List ℕ) → may_hold 0 value
    → (value ≡ root_block version slot) ⊎ (value ≡ root_block Version2 (other_slot slot))

-- whatever a crash leaves of its blocks, the slot spells the record in this version
abbrev pub SlotLasts : (ℕ → List ℕ → Type 0) → FileVersion → Slot → RecordValue → Type 0
SlotLasts may_hold version slot r = (k : ℕ) (value : List ℕ) → k < slot_blocks
    → may_hold (first_block slot + k) value → value ≡ slot_block version r k

-- the root names the slot, which holds the record; of the other slot nothing is known
pub record IsDecided (may_hold : ℕ → List ℕ → Type 0) (version : FileVersion) (slot : Slot) (r : RecordValue) : Type 0
  where
    pub root : RootLasts may_hold version slot
    pub spelled : SlotLasts may_hold version slot r
    pub is_record : IsRecord r.aptpl r.registrants r.reservation

-- the root names one slot or the other; the first holds `r` in this version, the other holds `other` in version 2
pub record IsUndecided (may_hold : ℕ → List ℕ → Type 0) (version : FileVersion) (slot : Slot) (r other : RecordValue)
    : Type 0 where
  pub root : SomeRootLasts may_hold version slot
  pub spelled : SlotLasts may_hold version slot r
  pub is_record : IsRecord r.aptpl r.registrants r.reservation
  pub other_spelled : SlotLasts may_hold Version2 (other_slot slot) other
  pub other_is_record : IsRecord other.aptpl other.registrants other.reservation

-- ---- the records that a crash may leave

-- These are all records that a crash may leave, and the blocks hold them so: one record, or two after a save that failed at its root,
-- which may have come to the disk all the same. The first of the two is that of the slot that the root named before that save, the
-- other the one that it was to save.
abbrev pub AreRecordsLeft : (ℕ → List ℕ → Type 0) → FileVersion → Slot → Bool → List RecordValue → Type 0
AreRecordsLeft may_hold version slot undecided [] = ⊥
AreRecordsLeft may_hold version slot undecided (r ∷ []) = (undecided ≡ false) × IsDecided may_hold version slot r
AreRecordsLeft may_hold version slot undecided (r ∷ other ∷ []) =
    (undecided ≡ true) × IsUndecided may_hold version slot r other
AreRecordsLeft may_hold version slot undecided (r ∷ other ∷ x ∷ xs) = ⊥

-- A crash of the file's device leaves one of these records, and the file knows where.
pub record LastsAmong {B : Type 0} (size : B → ℕ) (may_hold : B → ℕ → List ℕ → Type 0) (file : FileValue B)
    (records : List RecordValue) : Type 0 where
  pub blocks : file_blocks ≤ size file.device
  pub among : AreRecordsLeft (may_hold file.device) file.version file.slot file.undecided records

-- each outcome of a crash holds one of these records
abbrev pub EachOutcomeHolds : ℕ → (ℕ → List ℕ → Type 0) → List RecordValue → Type 0
EachOutcomeHolds size may_hold records =
    (disk : List (List ℕ)) → MayLeave size may_hold disk → HoldsOneOf records disk

-- ---- a save that failed

-- the first of the records, which is that of the slot that the root names
abbrev pub first_of : List RecordValue → List RecordValue
first_of [] = []
first_of (r ∷ rs) = r ∷ []

-- What a crash may leave after a save of the record `saved` that failed at this step, where it might leave `records` before: all of
-- them at the old root, which was to be written again; the first at the slot that the root does not name; the first or `saved` at the
-- new root.
abbrev pub left_by_fault : SaveFault → List RecordValue → RecordValue → List RecordValue
left_by_fault OldRoot records saved = records
left_by_fault IdleSlot records saved = first_of records
left_by_fault NewRoot records saved = first_of records ++ saved ∷ []

-- wherever a stop comes between these two states of the device, the blocks hold one of these records then
abbrev pub StopLeavesOneOf : {D : Type 0} → (D → ℕ) → (D → ℕ → List (List ℕ) → Type 0) → List RecordValue → D → D → Type 0
StopLeavesOneOf moment left_since records old new =
    Elapses (moment old) (moment new) (left_since old) (left_since new) (HoldsOneOf records)
