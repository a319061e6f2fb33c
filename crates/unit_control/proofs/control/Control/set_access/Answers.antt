use Rattle.std.proofs.Common.{arith, refl}
use Rattle.unit_control.proofs.GroupsLaws.{change_keeps}
use Rattle.unit_control.specs.Groups.{hear_change}
use Rattle.unit_control.proofs.Places.{place_mapped, serials_fit_changed}
use Rattle.unit_control.proofs.control.Control.set_access.Goals as goal

pub invariant_of-self-then-change-offset0 : goal.invariant_of-self-then-change-offset0
invariant_of-self-then-change-offset0 c = (
  rw c.tell_others.ensures.items (serials_fit_changed c.args.by c.self.inside.sessions.items c.self.inside.count c.self.invariant.0),
  omega (arith, c.tell_others.ensures.capacity, c.self.invariant.1),
)

pub returns-then-change-offset0-clause-stays : goal.returns-then-change-offset0-clause-stays
returns-then-change-offset0-clause-stays c =
    rw (← c.self.view_is)
    (record {
      total = refl;
      count = refl;
      place = λ session at place.
          rw c.tell_others.ensures.items (place_mapped (hear_change c.args.by) (λ a. (change_keeps c.args.by a).0) _ _ _ place);
    })
