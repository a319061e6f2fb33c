-- What a slot of a device has: the record that its bytes spell.
use Rattle.std.proofs.Common.{◌≡◌, ℕ, List, length, take, drop, sym, ◌∙◌, ap, subst}
use Rattle.registrants.specs.Registry.{RecordValue}
use Rattle.block_file.specs.Disk.{block_at}
use Rattle.aptpl_format.specs.declared.slot.Slot.{Slot}
use Rattle.aptpl_format.specs.declared.version.FileVersion.{FileVersion}
use Rattle.aptpl_format.specs.declared.fault.OpenFault.{OpenFault}
use Rattle.aptpl_format.specs.declared.fault.OpenFault.TheVariants.{NotARegFile, Version, DeviceFailed, NoMemory}
use Rattle.aptpl_format.specs.Format.{part_at, root_block, slot_bytes}
use Rattle.aptpl_format.specs.Reads.{IsRefusalOf, Spells}
use Rattle.aptpl_format.proofs.SlotParts.{same_blocks, slot_length}
use Rattle.aptpl_format.proofs.Spelled.{one_slot, one_version, root_version}
use Rattle.aptpl_file.specs.Holds.{HasSlot, Holds, HoldsSlot, IsRefusal}
use Rattle.aptpl_file.specs.Runs.{AreSlot}

pub slot_spells : (disk : List (List ℕ)) (slot : Slot) (v : FileVersion) (bytes : List ℕ) (r : RecordValue)
    → length bytes ≡ 16896 → AreSlot disk slot bytes → HasSlot disk v slot r → Spells v bytes r
slot_spells disk slot v bytes r long are has =
    record {
      lasting = has.lasting;
      spelled = same_blocks 33 bytes (slot_bytes v r) long (slot_length v r has.lasting)
          (λ k lt. are k lt ∙ has.spelled k lt);
    }

-- ---- the root

pub slot_held : (disk : List (List ℕ)) (v : FileVersion) (slot : Slot) (r : RecordValue)
    → block_at disk 0 ≡ root_block v slot → Holds disk r → HasSlot disk v slot r
slot_held disk v slot r root held = record {
  lasting = held.lasting;
  spelled = subst (λ (s : Slot). HoldsSlot disk v s r)
      (one_slot held.version v held.slot slot (sym held.root ∙ root))
      (subst (λ (w : FileVersion). HoldsSlot disk w held.slot r)
      (one_version held.version v held.slot slot (sym held.root ∙ root)) held.spelled);
}

-- a slot that spells nothing is no registration file
pub slot_refused : (disk : List (List ℕ)) (v : FileVersion) (slot : Slot) (fault : OpenFault)
    → block_at disk 0 ≡ root_block v slot → IsRefusalOf fault ((r : RecordValue) → HasSlot disk v slot r → ⊥)
    → IsRefusal disk fault
slot_refused disk v slot NotARegFile root none = (
  λ r held. none r (slot_held disk v slot r root held),
  λ named. record { version = v; is = ap (λ (b : List ℕ). take 2 (drop 8 b)) root ∙ root_version v slot },
)
slot_refused disk v slot Version root none = absurd none
slot_refused disk v slot DeviceFailed root none = tt
slot_refused disk v slot NoMemory root none = tt
