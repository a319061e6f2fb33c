-- A stop inside a save.
use Rattle.std.proofs.Common.{◌≡◌, inl, inr, ⊎_elim, ℕ, ◌+◌, ◌<◌, ◌≤◌, Bool, true, false, List, [], ◌∷◌, refl, subst, arith}
use Rattle.registrants.specs.Registry.{RecordValue, IsRecord}
use Rattle.block_file.specs.Disk.{or_new, IsNewAt, MayLeave, NoMore}
use Rattle.block_file.specs.Moment.{StopsAmong}
use Rattle.block_file.proofs.MomentLaws.{then_elapses}
use Rattle.aptpl_format.specs.declared.slot.Slot.{Slot}
use Rattle.aptpl_format.specs.declared.slot.Slot.TheVariants.{First, Second}
use Rattle.aptpl_format.specs.declared.version.FileVersion.{FileVersion}
use Rattle.aptpl_format.specs.declared.version.FileVersion.TheVariants.{Version2}
use Rattle.aptpl_format.specs.Format.{first_block, other_slot, root_block}
use Rattle.aptpl_file.specs.Holds.{HoldsOneOf}
use Rattle.aptpl_file.specs.Lasts.{RootLasts, SlotLasts, AreRecordsLeft, StopLeavesOneOf, first_of}
use Rattle.aptpl_file.proofs.LastsLaws.{behind_root, among_holds}
use Rattle.aptpl_file.specs.Writes.{IsInSlot, beside_slot}

-- a root is written: of a slot nothing else may be held
pub slot_beside : (may : ℕ → List ℕ → Type 0) (root : List ℕ) (v : FileVersion) (slot : Slot) (r : RecordValue)
    → SlotLasts may v slot r → SlotLasts (or_new 0 (root ∷ []) may) v slot r
slot_beside may root v slot r spelled k value lt held = ⊎_elim
    (λ m. spelled k value lt m)
    (λ (n : IsNewAt 0 (root ∷ []) (first_block slot + k) value).
    let b = n.below in let p : 0 < first_block slot = behind_root slot in absurd (omega arith))
    held

-- and of the root that root alone besides
root_new : (root value : List ℕ) → IsNewAt 0 (root ∷ []) 0 value → value ≡ root
root_new root value n = n.is

-- the root that names the slot is written again
pub root_again : (may : ℕ → List ℕ → Type 0) (v : FileVersion) (slot : Slot) (undecided : Bool) (records : List RecordValue)
    → AreRecordsLeft may v slot undecided records → AreRecordsLeft (or_new 0 (root_block v slot ∷ []) may) v slot undecided records
root_again may v slot undecided [] among = absurd among
root_again may v slot undecided (r ∷ []) among = (
  among.0,
  record {
    root = λ value held. ⊎_elim (λ m. among.1.root value m) (λ n. root_new (root_block v slot) value n) held;
    spelled = slot_beside may (root_block v slot) v slot r among.1.spelled;
    is_record = among.1.is_record;
  },
)
root_again may v slot undecided (r ∷ landed ∷ []) among = (
  among.0,
  record {
    root = λ value held. ⊎_elim (λ m. among.1.root value m) (λ n. inl (root_new (root_block v slot) value n)) held;
    spelled = slot_beside may (root_block v slot) v slot r among.1.spelled;
    is_record = among.1.is_record;
    other_spelled = slot_beside may (root_block v slot) Version2 (other_slot slot) landed among.1.other_spelled;
    other_is_record = among.1.other_is_record;
  },
)
root_again may v slot undecided (r ∷ landed ∷ x ∷ xs) among = absurd among

-- once the root is decided, the first record is left
pub decided_now : (may mid : ℕ → List ℕ → Type 0) (v : FileVersion) (slot : Slot) (undecided : Bool) (records : List RecordValue)
    → AreRecordsLeft may v slot undecided records → NoMore (or_new 0 (root_block v slot ∷ []) may) mid
    → (undecided ≡ true → RootLasts mid v slot) → AreRecordsLeft mid v slot false (first_of records)
decided_now may mid v slot undecided [] among within root = absurd among
decided_now may mid v slot undecided (r ∷ []) among within root =
    let again = root_again may v slot undecided (r ∷ []) among in (
      refl,
      record {
        root = λ value held. again.1.root value (within 0 value held);
        spelled = λ k value lt held. again.1.spelled k value lt (within (first_block slot + k) value held);
        is_record = among.1.is_record;
      },
    )
decided_now may mid v slot undecided (r ∷ landed ∷ []) among within root =
    let again = root_again may v slot undecided (r ∷ landed ∷ []) among in (
      refl,
      record {
        root = root among.0;
        spelled = λ k value lt held. again.1.spelled k value lt (within (first_block slot + k) value held);
        is_record = among.1.is_record;
      },
    )
decided_now may mid v slot undecided (r ∷ landed ∷ x ∷ xs) among within root = absurd among

-- the other slot may hold anything
apart : (slot : Slot) (k : ℕ) → k < 33 → IsInSlot (other_slot slot) (first_block slot + k) → ⊥
apart First k lt i = let f = i.from in let b = i.below in omega arith
apart Second k lt i = let f = i.from in let b = i.below in omega arith

root_apart : (slot : Slot) → IsInSlot slot 0 → ⊥
root_apart First i = let f = i.from in omega arith
root_apart Second i = let f = i.from in omega arith

pub slot_free : (may : ℕ → List ℕ → Type 0) (v : FileVersion) (slot : Slot) (records : List RecordValue)
    → AreRecordsLeft may v slot false (first_of records)
    → AreRecordsLeft (beside_slot (other_slot slot) may) v slot false (first_of records)
slot_free may v slot [] among = absurd among
slot_free may v slot (r ∷ rs) among = (
  refl,
  record {
    root = λ value held. ⊎_elim (λ m. among.1.root value m) (λ i. absurd (root_apart (other_slot slot) i)) held;
    spelled = λ k value lt held. ⊎_elim (λ m. among.1.spelled k value lt m) (λ i. absurd (apart slot k lt i)) held;
    is_record = among.1.is_record;
  },
)

pub within_slot : (may mid : ℕ → List ℕ → Type 0) (v : FileVersion) (slot : Slot) (records : List RecordValue)
    → AreRecordsLeft may v slot false (first_of records) → NoMore (beside_slot (other_slot slot) may) mid
    → AreRecordsLeft mid v slot false (first_of records)
within_slot may mid v slot [] among within = absurd among
within_slot may mid v slot (r ∷ rs) among within =
    let free = slot_free may v slot (r ∷ rs) among in (
      refl,
      record {
        root = λ value held. free.1.root value (within 0 value held);
        spelled = λ k value lt held. free.1.spelled k value lt (within (first_block slot + k) value held);
        is_record = among.1.is_record;
      },
    )

-- the other slot is named, or is not yet
pub either_root : (may : ℕ → List ℕ → Type 0) (v : FileVersion) (slot : Slot) (r saved : RecordValue)
    → AreRecordsLeft may v slot false (r ∷ []) → SlotLasts may Version2 (other_slot slot) saved
    → IsRecord saved.aptpl saved.registrants saved.reservation
    → AreRecordsLeft (or_new 0 (root_block Version2 (other_slot slot) ∷ []) may) v slot true (r ∷ saved ∷ [])
either_root may v slot r saved among spelled lasting = (
  refl,
  record {
    root = λ value held. ⊎_elim (λ m. inl (among.1.root value m))
        (λ n. inr (root_new (root_block Version2 (other_slot slot)) value n)) held;
    spelled = slot_beside may (root_block Version2 (other_slot slot)) v slot r among.1.spelled;
    is_record = among.1.is_record;
    other_spelled = slot_beside may (root_block Version2 (other_slot slot)) Version2 (other_slot slot) saved spelled;
    other_is_record = lasting;
  },
)

first_is_one : (records : List RecordValue) (disk : List (List ℕ)) → HoldsOneOf (first_of records) disk
    → HoldsOneOf records disk
first_is_one [] disk h = absurd h
first_is_one (r ∷ rs) disk h = ⊎_elim (λ held. inl held) (λ none. absurd none) h

module _ {D : Type 0} (moment : D → ℕ) (left_since : D → ℕ → List (List ℕ) → Type 0) (size : D → ℕ)
    (may_hold : D → ℕ → List ℕ → Type 0) (v : FileVersion) (slot : Slot) (records : List RecordValue) (saved : RecordValue) where
  -- while the old root is written again
  pub stop_old_root : (old new : D) (undecided : Bool) → 67 ≤ size old
      → AreRecordsLeft (may_hold old) v slot undecided records
      → StopsAmong moment left_since size (or_new 0 (root_block v slot ∷ []) (may_hold old)) old new
      → StopLeavesOneOf moment left_since (saved ∷ records) old new
  stop_old_root old new undecided room among stop = record {
    later = stop.later;
    nothing_else = λ t disk le left. ⊎_elim (λ before. inl before)
        (λ now. inr (inr (among_holds (size old) (or_new 0 (root_block v slot ∷ []) (may_hold old)) disk room now v slot
        undecided records (root_again (may_hold old) v slot undecided records among))))
        (stop.nothing_else t disk le left);
    keeps = stop.keeps;
  }

  -- while the other slot is written
  pub stop_slot : (old mid new : D) → 67 ≤ size mid → StopLeavesOneOf moment left_since (saved ∷ records) old mid
      → AreRecordsLeft (may_hold mid) v slot false (first_of records)
      → StopsAmong moment left_since size (beside_slot (other_slot slot) (may_hold mid)) mid new
      → StopLeavesOneOf moment left_since (saved ∷ records) old new
  stop_slot old mid new room so_far among stop =
      then_elapses (moment old) (moment mid) (moment new) (left_since old) (left_since mid) (left_since new)
      (HoldsOneOf (saved ∷ records)) (MayLeave (size mid) (beside_slot (other_slot slot) (may_hold mid))) so_far stop
      (λ disk left. inr (first_is_one records disk
      (among_holds (size mid) (beside_slot (other_slot slot) (may_hold mid)) disk room left v slot false
      (first_of records) (slot_free (may_hold mid) v slot records among))))

  -- while the root that names it is written
  pub stop_new_root : (old mid new : D) → 67 ≤ size mid → StopLeavesOneOf moment left_since (saved ∷ records) old mid
      → AreRecordsLeft (may_hold mid) v slot false (first_of records)
      → SlotLasts (may_hold mid) Version2 (other_slot slot) saved
      → IsRecord saved.aptpl saved.registrants saved.reservation
      → StopsAmong moment left_since size (or_new 0 (root_block Version2 (other_slot slot) ∷ []) (may_hold mid)) mid new
      → StopLeavesOneOf moment left_since (saved ∷ records) old new
  stop_new_root old mid new room so_far among spelled lasting stop =
      then_elapses (moment old) (moment mid) (moment new) (left_since old) (left_since mid) (left_since new)
      (HoldsOneOf (saved ∷ records))
      (MayLeave (size mid) (or_new 0 (root_block Version2 (other_slot slot) ∷ []) (may_hold mid))) so_far stop
      (λ disk left. landed records disk among left)
    where
      landed : (rs : List RecordValue) (disk : List (List ℕ)) → AreRecordsLeft (may_hold mid) v slot false (first_of rs)
          → MayLeave (size mid) (or_new 0 (root_block Version2 (other_slot slot) ∷ []) (may_hold mid)) disk
          → HoldsOneOf (saved ∷ rs) disk
      landed [] disk one left = absurd one
      landed (r ∷ rs) disk one left =
          ⊎_elim (λ held. inr (inl held)) (λ more. ⊎_elim (λ held. inl held) (λ none. absurd none) more)
          (among_holds (size mid) (or_new 0 (root_block Version2 (other_slot slot) ∷ []) (may_hold mid)) disk room left v slot true
          (r ∷ saved ∷ []) (either_root (may_hold mid) v slot r saved one spelled lasting))

  -- the calls of a save as far as the slot, by the names that the code has for the device and the slots
  module _ (old mid here : D) (undecided : Bool) (idle : Slot) (room : 67 ≤ size old) (room_here : 67 ≤ size here)
      (same : mid ≡ here) (is : idle ≡ other_slot slot) (among : AreRecordsLeft (may_hold old) v slot undecided records)
      (within : NoMore (or_new 0 (root_block v slot ∷ []) (may_hold old)) (may_hold mid))
      (root : undecided ≡ true → RootLasts (may_hold mid) v slot)
      (first : StopsAmong moment left_since size (or_new 0 (root_block v slot ∷ []) (may_hold old)) old mid) where
    one : AreRecordsLeft (may_hold here) v slot false (first_of records)
    one = subst (λ (d : D). AreRecordsLeft (may_hold d) v slot false (first_of records)) same
        (decided_now (may_hold old) (may_hold mid) v slot undecided records among within root)

    so_far : StopLeavesOneOf moment left_since (saved ∷ records) old here
    so_far = subst (λ (d : D). StopLeavesOneOf moment left_since (saved ∷ records) old d) same
        (stop_old_root old mid undecided room among first)

    pub until_slot : (next : D) → StopsAmong moment left_since size (beside_slot idle (may_hold here)) here next
        → StopLeavesOneOf moment left_since (saved ∷ records) old next
    until_slot next stop = stop_slot old here next room_here so_far one
        (subst (λ (i : Slot). StopsAmong moment left_since size (beside_slot i (may_hold here)) here next) is stop)

    -- and the new root
    pub until_root : (next new : D) (r : RecordValue) → size next ≡ size here → r ≡ saved
        → IsRecord saved.aptpl saved.registrants saved.reservation
        → NoMore (beside_slot idle (may_hold here)) (may_hold next) → SlotLasts (may_hold next) Version2 idle r
        → StopsAmong moment left_since size (beside_slot idle (may_hold here)) here next
        → StopsAmong moment left_since size (or_new 0 (root_block Version2 idle ∷ []) (may_hold next)) next new
        → StopLeavesOneOf moment left_since (saved ∷ records) old new
    until_root next new r as_long spelled_as lasting beside spelled second third =
        stop_new_root old next new (omega arith) (until_slot next second)
        (within_slot (may_hold here) (may_hold next) v slot records one
        (subst (λ (i : Slot). NoMore (beside_slot i (may_hold here)) (may_hold next)) is beside))
        (subst (λ (x : RecordValue). SlotLasts (may_hold next) Version2 (other_slot slot) x) spelled_as
        (subst (λ (i : Slot). SlotLasts (may_hold next) Version2 i r) is spelled))
        lasting
        (subst (λ (i : Slot). StopsAmong moment left_since size (or_new 0 (root_block Version2 i ∷ []) (may_hold next)) next new) is
        third)
