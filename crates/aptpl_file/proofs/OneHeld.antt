-- Two records that the same blocks hold are one.
use Rattle.std.proofs.Common.{◌≡◌, ℕ, List, refl, sym, ◌∙◌}
use Rattle.registrants.specs.Registry.{RecordValue}
use Rattle.aptpl_format.specs.declared.slot.Slot.{Slot}
use Rattle.aptpl_format.specs.declared.version.FileVersion.{FileVersion}
use Rattle.aptpl_format.specs.Format.{slot_bytes}
use Rattle.aptpl_format.proofs.OneRecord.{one_spelled}
use Rattle.aptpl_format.proofs.SlotParts.{same_blocks, slot_length}
use Rattle.aptpl_file.specs.Holds.{HasSlot, Holds}
use Rattle.aptpl_file.proofs.SlotHas.{slot_held}

-- the blocks of a slot have one record
same_slot : (disk : List (List ℕ)) (v : FileVersion) (slot : Slot) (r s : RecordValue) → HasSlot disk v slot r
    → HasSlot disk v slot s → r ≡ s
same_slot disk v slot r s hr hs =
    one_spelled v (slot_bytes v r) r s (record { lasting = hr.lasting; spelled = refl }) (record {
      lasting = hs.lasting;
      spelled = same_blocks 33 (slot_bytes v r) (slot_bytes v s) (slot_length v r hr.lasting) (slot_length v s hs.lasting)
          (λ k lt. sym (hr.spelled k lt) ∙ hs.spelled k lt);
    })

pub one_record : (disk : List (List ℕ)) (r s : RecordValue) → Holds disk r → Holds disk s → r ≡ s
one_record disk r s hr hs =
    same_slot disk hr.version hr.slot r s (slot_held disk hr.version hr.slot r hr.root hr)
    (slot_held disk hr.version hr.slot s hr.root hs)
