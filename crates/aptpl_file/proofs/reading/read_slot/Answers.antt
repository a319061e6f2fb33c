use Rattle.std.proofs.Common.{arith}
use Rattle.aptpl_file.proofs.SlotHas.{slot_spells}
use Rattle.aptpl_format.proofs.Told.{if_err_too, refused_too}
use Rattle.aptpl_file.proofs.reading.read_slot.Goals as goal

pub returns-clause-refused : goal.returns-clause-refused
returns-clause-refused g c = λ h.
    if_err_too c.record_of.result _ _ (λ fault none. refused_too fault _ _ (λ no r has. no r
    (slot_spells (g.B.Blocks.contents c.args.device.now) c.args.slot c.args.version c.in-Ok.bytes r (omega arith)
    (c.in-Ok.ensures.read h) has)) none)
    c.record_of.ensures.refused
