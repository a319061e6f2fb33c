use Rattle.std.proofs.Common.{◌+◌, arith, length}
use Rattle.reservations.proofs.Room.{room_is}
use Rattle.reservations.proofs.table.Table.has_room_for.Goals as goal

pub returns : goal.returns
returns c =
    let long = c.len.ensures in
    room_is c.len.result c.args.more (length c.args.self.now.registrants.items + c.args.more) (omega (arith, long))
    (omega (arith, c.requires))
