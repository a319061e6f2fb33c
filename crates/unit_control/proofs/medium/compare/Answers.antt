use Rattle.std.proofs.Common.{arith}
use Rattle.std.proofs.lemmas.Grind.{moves}
use Rattle.unit_control.proofs.Works.{compare_worked, compare_flushed}
use Rattle.unit_control.proofs.WorkLoss.{compare_left, flushed_left, left_then, unwritten_left}
use Rattle.unit_control.proofs.medium.compare.Goals as goal

pub returns-in-Done-clause-worked : goal.returns-in-Done-clause-worked
returns-in-Done-clause-worked g c =
    compare_flushed _ _ _ _ _ _ _ _ c.sync.ensures.ends c.in-Done.ensures.equal c.in-Done.ensures.written
    c.in-Done.ensures.torn c.sync.ensures.contents

pub returns-in_default-clause-worked : goal.returns-in_default-clause-worked
returns-in_default-clause-worked g c =
    let e = c.compare_and_write.ensures in
    compare_worked _ _ _ _ _ _ _ e.ends e.offset e.equal e.differs e.unwritten e.written e.torn

pub returns-in-Done-clause-left : goal.returns-in-Done-clause-left
returns-in-Done-clause-left g c = λ h.
    flushed_left _ _ _ _ _ (g.B.Blocks.contents c.args.device.now) (record { lba = c.args.lba; blocks = c.args.blocks })
    c.args.bytes.now c.args.fua _ _ (g.B.Blocks.contents c.sync.new.device) c.sync.result c.sync.ensures.ends
    (c.in-Done.ensures.equal h)
    (left_then _ _ _ _ _ _ _ _ _ c.in-Done.ensures.size
    (record { crash = c.in-Done.ensures.crash h; stop = c.in-Done.ensures.stop h })
    (record { crash = c.sync.ensures.crash h; stop = c.sync.ensures.stop h }))

pub returns-in_default-clause-left : goal.returns-in_default-clause-left
returns-in_default-clause-left g c = λ h.
    let e = c.compare_and_write.ensures in
    compare_left _ _ _ _ _ (g.B.Blocks.contents c.args.device.now) (record { lba = c.args.lba; blocks = c.args.blocks })
    c.args.bytes.now c.args.fua _ _ (g.B.Blocks.contents c.compare_and_write.new.device) c.compare_and_write.result e.ends
    (e.equal h) (e.differs h)
    (unwritten_left _ _ _ _ _ _ _ c.compare_and_write.result (e.untouched h) (e.stop_unwritten h))
    (record { crash = e.crash h; stop = e.stop h })

pub returns-in-Done-clause-failures : goal.returns-in-Done-clause-failures
returns-in-Done-clause-failures g c = grind (arith, moves) steps 2000000

pub returns-in-Done-clause-failed_reads : goal.returns-in-Done-clause-failed_reads
returns-in-Done-clause-failed_reads g c = grind (arith, moves) steps 2000000

pub returns-in-Done-clause-failed_writes : goal.returns-in-Done-clause-failed_writes
returns-in-Done-clause-failed_writes g c = grind (arith, moves) steps 2000000

pub returns-in_default-2 : goal.returns-in_default-2
returns-in_default-2 g c = grind (arith, moves) steps 2000000
