use Rattle.std.proofs.Common.{ℕ, List, ap, arith, refl}
use Rattle.std.proofs.lemmas.Result.{on_ok_weaker}
use Rattle.registrants.specs.Registry.{RecordValue}
use Rattle.block_file.specs.Cut.{run_of}
use Rattle.block_file.specs.Disk.{or_new, MayLeave}
use Rattle.block_file.proofs.MomentLaws.{no_time, stops_then}
use Rattle.aptpl_format.specs.declared.version.FileVersion.TheVariants.{Version2}
use Rattle.aptpl_format.specs.Format.{part_at}
use Rattle.aptpl_file.specs.Writes.{beside_slot}
use Rattle.aptpl_file.proofs.SlotWrites.{new_beside, slot_lasts}
use Rattle.aptpl_file.proofs.writing.save_slot.Goals as goal

pub returns-clause-lasts : goal.returns-clause-lasts
returns-clause-lasts g c = λ h.
    let r : RecordValue =
    record { aptpl = c.args.aptpl; registrants = c.args.registrants.now; reservation = c.args.reservation.now } in
    on_ok_weaker c.save_run.result
    (slot_lasts c.args.slot c.slot_bytes-bytes.result (omega arith) c.first_block.result c.first_block.ensures Version2 r
    (g.B.Blocks.contents c.args.device.now) (g.B.Blocks.may_hold c.save_run.new.device)
    (omega (arith, g.met.B.Blocks.sized c.args.device.now h))
    (λ k lt. ap (λ (b : List ℕ). part_at b k) c.slot_bytes-bytes.ensures))
    (c.save_run.ensures.lasts h)

pub returns-clause-crash : goal.returns-clause-crash
returns-clause-crash g c = λ h k value held.
    new_beside c.args.slot c.slot_bytes-bytes.result (omega arith) c.first_block.result c.first_block.ensures
    (g.B.Blocks.may_hold c.args.device.now) k value (c.save_run.ensures.crash h k value held)

pub returns-clause-stop : goal.returns-clause-stop
returns-clause-stop g c = λ h m.
    let d = c.args.device.now in
    let may = g.B.Blocks.may_hold d in
    let values = beside_slot c.args.slot may in
    stops_then g.B.Blocks.moment g.B.Blocks.left_since g.B.Blocks.size d d c.save_run.new.device values
    (or_new c.first_block.result (run_of c.slot_bytes-bytes.result) may)
    (no_time (g.B.Blocks.moment d) (g.B.Blocks.left_since d) (MayLeave (g.B.Blocks.size d) values))
    (c.save_run.ensures.stop h m) refl
    (new_beside c.args.slot c.slot_bytes-bytes.result (omega arith) c.first_block.result c.first_block.ensures may)
