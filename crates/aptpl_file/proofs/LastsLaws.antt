-- What the records among which a crash leaves one say of its outcomes.
use Rattle.std.proofs.Common.{◌≡◌, ◌⊎◌, inl, inr, ⊎_elim, ℕ, ◌+◌, ◌<◌, ◌≤◌, Bool, List, [], ◌∷◌, arith}
use Rattle.registrants.specs.Registry.{RecordValue}
use Rattle.block_file.specs.Disk.{block_at, MayLeave}
use Rattle.aptpl_format.specs.declared.slot.Slot.{Slot}
use Rattle.aptpl_format.specs.declared.slot.Slot.TheVariants.{First, Second}
use Rattle.aptpl_format.specs.declared.version.FileVersion.{FileVersion}
use Rattle.aptpl_format.specs.declared.version.FileVersion.TheVariants.{Version2}
use Rattle.aptpl_format.specs.Format.{first_block, other_slot, root_block, slot_block}
use Rattle.aptpl_file.specs.Holds.{Holds, HoldsOneOf}
use Rattle.aptpl_file.specs.Lasts.{FileValue, SlotLasts, IsDecided, IsUndecided, AreRecordsLeft, LastsAmong, EachOutcomeHolds}

-- a slot lies in the file, behind the root
pub slot_within : (slot : Slot) (k : ℕ) → k < 33 → first_block slot + k < 67
slot_within First k lt = omega arith
slot_within Second k lt = omega arith

pub behind_root : (slot : Slot) → 0 < first_block slot
behind_root First = omega arith
behind_root Second = omega arith

module _ (size : ℕ) (may_hold : ℕ → List ℕ → Type 0) (disk : List (List ℕ)) (room : 67 ≤ size)
    (left : MayLeave size may_hold disk) where
  pub slot_left : (version : FileVersion) (slot : Slot) (r : RecordValue) → SlotLasts may_hold version slot r → (k : ℕ) → k < 33
      → block_at disk (first_block slot + k) ≡ slot_block version r k
  slot_left version slot r spelled k lt =
      let within : first_block slot + k < 67 = slot_within slot k lt in
      spelled k _ lt (left.each (first_block slot + k) (omega arith))

  pub decided_holds : (version : FileVersion) (slot : Slot) (r : RecordValue) → IsDecided may_hold version slot r → Holds disk r
  decided_holds version slot r d = record {
    blocks = omega (arith, left.as_long, room);
    lasting = d.is_record;
    version = version;
    slot = slot;
    root = d.root _ (left.each 0 (omega arith));
    spelled = slot_left version slot r d.spelled;
  }

  pub undecided_holds : (version : FileVersion) (slot : Slot) (r landed : RecordValue)
      → IsUndecided may_hold version slot r landed
      → Holds disk r ⊎ Holds disk landed
  undecided_holds version slot r landed u = ⊎_elim
      (λ (is : block_at disk 0 ≡ root_block version slot). inl (record {
        blocks = omega (arith, left.as_long, room);
        lasting = u.is_record;
        version = version;
        slot = slot;
        root = is;
        spelled = slot_left version slot r u.spelled;
      }))
      (λ (is : block_at disk 0 ≡ root_block Version2 (other_slot slot)). inr (record {
        blocks = omega (arith, left.as_long, room);
        lasting = u.other_is_record;
        version = Version2;
        slot = other_slot slot;
        root = is;
        spelled = slot_left Version2 (other_slot slot) landed u.other_spelled;
      }))
      (u.root _ (left.each 0 (omega arith)))

  pub among_holds : (version : FileVersion) (slot : Slot) (undecided : Bool) (records : List RecordValue)
      → AreRecordsLeft may_hold version slot undecided records → HoldsOneOf records disk
  among_holds version slot undecided [] among = absurd among
  among_holds version slot undecided (r ∷ []) among = inl (decided_holds version slot r among.1)
  among_holds version slot undecided (r ∷ landed ∷ []) among =
      ⊎_elim (λ h. inl h) (λ h. inr (inl h)) (undecided_holds version slot r landed among.1)
  among_holds version slot undecided (r ∷ landed ∷ x ∷ xs) among = absurd among

-- each outcome of a crash holds one of the records
pub each_outcome_holds : {B : Type 0} (size : B → ℕ) (may_hold : B → ℕ → List ℕ → Type 0) (file : FileValue B)
    (records : List RecordValue) → LastsAmong size may_hold file records
    → EachOutcomeHolds (size file.device) (may_hold file.device) records
each_outcome_holds size may_hold file records lasts disk left =
    among_holds (size file.device) (may_hold file.device) disk lasts.blocks left file.version file.slot file.undecided records
    lasts.among
