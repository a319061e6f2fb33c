use Rattle.std.proofs.Common.{arith, length-take, take}
use Rattle.unit_control.proofs.Places.{fewer}
use Rattle.unit_control.proofs.sessions.staying.Goals as goal

pub overflow_add-stay : goal.overflow_add-stay
overflow_add-stay c =
    let front = take c.loop-attached.attached-index c.args.sessions.now in
    omega (
      arith,
      fewer (record { port = c.args.port.now; group = c.args.group }) front,
      length-take c.loop-attached.attached-index c.args.sessions.now,
    )
