use Rattle.std.proofs.Common.{arith}
use Rattle.registrants.specs.Nexus.{through}
use Rattle.reservations.specs.Seen.{value_of}
use Rattle.reservations.proofs.Sound.{stays_sound}
use Rattle.reservations.proofs.registry.Registry.out.Goals as goal

pub invariant_of-self : goal.invariant_of-self
invariant_of-self c =
    let does = rw c.new-sender.ensures at c.out.ensures.does in (
      stays_sound c.out.result (value_of c.self.inside.table) (value_of c.out.new.self)
          (through c.args.port.now c.args.group) c.args.request does c.self.invariant.0,
      omega (arith, c.out.ensures.room, c.self.invariant.1),
      c.self.invariant.2,
    )
