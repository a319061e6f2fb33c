use Rattle.std.proofs.Common.{◌<◌, length, arith}
use Rattle.reservations.specs.Reading.{descriptor_of}
use Rattle.reservations.specs.Seen.{value_of}
use Rattle.reservations.proofs.Appended.{appended_more}
use Rattle.reservations.proofs.table.Table.full_status.Goals as goal

pub loop-x-preserved : goal.loop-x-preserved
loop-x-preserved c =
    let within : c.loop-x.x-index < length c.deref-x-items.result.now = omega arith in
    rw c.in_ok-push_descriptor.ensures
    (appended_more (descriptor_of (value_of c.args.self.now)) _ _ c.x-item.result _ within c.x-item.is c.loop-x.invariant)
