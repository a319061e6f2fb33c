use Rattle.std.proofs.Common.{arith, refl}
use Rattle.unit_control.specs.Reserve.{hear}
use Rattle.unit_control.proofs.Places.{place_mapped, serials_fit_heard}
use Rattle.unit_control.proofs.control.Control.put_in_force.Goals as goal

pub invariant_of-self : goal.invariant_of-self
invariant_of-self c = (
  rw c.hear_all.ensures.items (serials_fit_heard _ c.self.inside.sessions.items c.self.inside.count c.self.invariant.0),
  omega (arith, c.hear_all.ensures.capacity, c.self.invariant.1),
)

pub returns-clause-stays : goal.returns-clause-stays
returns-clause-stays c =
    rw (← c.self.view_is)
    (record { total = refl; count = refl; place = λ session at place. rw c.hear_all.ensures.items (place_mapped (hear _) (λ a. refl) _ _ _ place) })
