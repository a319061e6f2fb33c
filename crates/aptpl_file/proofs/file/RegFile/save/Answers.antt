use Rattle.std.proofs.Common.{arith, rules}
use Rattle.registrants.specs.Registry.{RecordValue}
use Rattle.aptpl_file.proofs.Saves.{failed_at_old_root, failed_at_slot, failed_at_new_root, saved_lasts}
use Rattle.aptpl_file.proofs.Stops.{stop_old_root, until_slot, until_root}
use Rattle.aptpl_file.proofs.file.RegFile.save.Goals as goal

pub returns-in_default-clause-stop : goal.returns-in_default-clause-stop
returns-in_default-clause-stop g c = λ h m records lasts.
    stop_old_root g.B.Blocks.moment g.B.Blocks.left_since g.B.Blocks.size g.B.Blocks.may_hold c.args.self.now.version c.args.self.now.slot
    records c.args.saved.now c.args.self.now.device c.decide.new.self.device c.args.self.now.undecided lasts.blocks
    lasts.among (c.in_default.ensures.stop h m)

pub returns-in_default-save_slot-clause-stop : goal.returns-in_default-save_slot-clause-stop
returns-in_default-save_slot-clause-stop g c = λ h m records lasts.
    until_slot g.B.Blocks.moment g.B.Blocks.left_since g.B.Blocks.size g.B.Blocks.may_hold c.args.self.now.version c.args.self.now.slot records
    c.args.saved.now c.args.self.now.device c.decide.new.self.device c.self.inside.device c.args.self.now.undecided
    _ lasts.blocks c.self.invariant (search rules) (search rules) lasts.among
    (c.in-Ok.ensures.crash h) (λ u. c.in-Ok.ensures.root h u) (c.in-Ok.ensures.stop h m) c.save_slot.new.device
    (c.save_slot.ensures.stop h m)

pub returns-in_default-save_root-clause-stop : goal.returns-in_default-save_root-clause-stop
returns-in_default-save_root-clause-stop g c = λ h m records lasts.
    let r : RecordValue =
    record { aptpl = c.aptpl-aptpl.result; registrants = c.registrants.result.now; reservation = c.reservation.result.now }
    in
    until_root g.B.Blocks.moment g.B.Blocks.left_since g.B.Blocks.size g.B.Blocks.may_hold c.args.self.now.version c.args.self.now.slot records
    c.args.saved.now c.args.self.now.device c.decide.new.self.device c.self.inside.device c.args.self.now.undecided
    _ lasts.blocks c.self.invariant (search rules) (search rules) lasts.among
    (c.in-Ok.ensures.crash h) (λ u. c.in-Ok.ensures.root h u) (c.in-Ok.ensures.stop h m) c.save_slot.new.device
    c.save_root.new.device r c.save_slot.ensures.size (search rules) c.aptpl-aptpl.ensures.sound
    (c.save_slot.ensures.crash h) (c.in-Ok-save_slot.ensures.lasts h) (c.save_slot.ensures.stop h m)
    (c.save_root.ensures.stop h m)

pub returns-clause-stop : goal.returns-clause-stop
returns-clause-stop g c = λ h m records lasts.
    let r : RecordValue =
    record { aptpl = c.aptpl-aptpl.result; registrants = c.registrants.result.now; reservation = c.reservation.result.now }
    in
    until_root g.B.Blocks.moment g.B.Blocks.left_since g.B.Blocks.size g.B.Blocks.may_hold c.args.self.now.version c.args.self.now.slot records
    c.args.saved.now c.args.self.now.device c.decide.new.self.device c.self.inside.device c.args.self.now.undecided
    _ lasts.blocks c.self.invariant (search rules) (search rules) lasts.among
    (c.in-Ok.ensures.crash h) (λ u. c.in-Ok.ensures.root h u) (c.in-Ok.ensures.stop h m) c.save_slot.new.device
    c.save_root.new.device r c.save_slot.ensures.size (search rules) c.aptpl-aptpl.ensures.sound
    (c.save_slot.ensures.crash h) (c.in-Ok-save_slot.ensures.lasts h) (c.save_slot.ensures.stop h m)
    (c.save_root.ensures.stop h m)

pub returns-in_default-clause-failed : goal.returns-in_default-clause-failed
returns-in_default-clause-failed g c = λ h records lasts.
    failed_at_old_root g.B.Blocks.size g.B.Blocks.may_hold c.args.self.now c.decide.new.self records lasts c.decide.ensures.size
    c.decide.ensures.version c.decide.ensures.slot (c.decide.ensures.crash h) c.in_default.ensures.failed

pub returns-in_default-save_slot-clause-failed : goal.returns-in_default-save_slot-clause-failed
returns-in_default-save_slot-clause-failed g c = λ h records lasts.
    failed_at_slot g.B.Blocks.size g.B.Blocks.may_hold c.args.self.now c.decide.new.self records lasts c.decide.ensures.size
    c.decide.ensures.version c.decide.ensures.slot (c.decide.ensures.crash h) (λ u. c.in-Ok.ensures.root h u) c.in-Ok.ensures.decided
    _ c.self.view_is _ (search rules) c.save_slot.new.device c.save_slot.ensures.size (c.save_slot.ensures.crash h)

pub returns-in_default-save_root-clause-failed : goal.returns-in_default-save_root-clause-failed
returns-in_default-save_root-clause-failed g c = λ h records lasts.
    let r : RecordValue =
    record { aptpl = c.aptpl-aptpl.result; registrants = c.registrants.result.now; reservation = c.reservation.result.now }
    in
    failed_at_new_root g.B.Blocks.size g.B.Blocks.may_hold c.args.self.now c.decide.new.self records lasts c.decide.ensures.size
    c.decide.ensures.version c.decide.ensures.slot (c.decide.ensures.crash h) (λ u. c.in-Ok.ensures.root h u) c.in-Ok.ensures.decided
    _ c.self.view_is _ (search rules) c.save_slot.new.device c.save_slot.ensures.size (c.save_slot.ensures.crash h)
    c.save_root.new.device r c.args.saved.now c.save_root.ensures.size (c.save_root.ensures.crash h) (c.in-Ok-save_slot.ensures.lasts h)
    (search rules) c.aptpl-aptpl.ensures.sound

pub returns-clause-saved : goal.returns-clause-saved
returns-clause-saved g c = λ h.
    let r : RecordValue =
    record { aptpl = c.aptpl-aptpl.result; registrants = c.registrants.result.now; reservation = c.reservation.result.now }
    in
    let next = c.save_slot.ensures.size in let new = c.save_root.ensures.size in let room = c.self.invariant in
    saved_lasts g.B.Blocks.size g.B.Blocks.may_hold c.save_slot.new.device c.save_root.new.device _ c.self.inside.undecided r
    c.args.saved.now (omega (arith, next, new, room)) (search rules) (c.save_root.ensures.crash h)
    (c.in-Ok-save_root.ensures.lasts h) (c.in-Ok-save_slot.ensures.lasts h) (search rules) c.aptpl-aptpl.ensures.sound
