use Rattle.std.proofs.Common.{◌∙◌, sym, ap, subst, List, ℕ}
use Rattle.block_file.specs.Disk.{block_at}
use Rattle.aptpl_file.specs.Holds.{IsRefusal}
use Rattle.aptpl_file.proofs.SlotHas.{slot_refused}
use Rattle.aptpl_file.proofs.reading.read_record.Goals as goal

pub returns-in-Err-read_slot-clause-refused : goal.returns-in-Err-read_slot-clause-refused
returns-in-Err-read_slot-clause-refused g c = λ h.
    subst (λ (d : List (List ℕ)). IsRefusal d c.in-Err-read_slot.fault) (c.in-Ok.ensures.contents h)
    (slot_refused (g.B.Blocks.contents c.read_block.new.device) c.in-Ok-named_by.named.0 c.in-Ok-named_by.named.1 c.in-Err-read_slot.fault
    (ap (λ (d : List (List ℕ)). block_at d 0) (c.in-Ok.ensures.contents h) ∙ sym (c.in-Ok.ensures.read h)
    ∙ c.in-Ok-named_by.ensures.named)
    (c.in-Err-read_slot.ensures.refused h))
