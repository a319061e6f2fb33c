use Rattle.std.proofs.Common.{arith, All, subst, sym, List, ◌+◌}
use Rattle.unit_control.specs.Sessions.{HasCountedSerial}
use Rattle.unit_control.specs.declared.sessions.Attached.{Attached}
use Rattle.unit_control.proofs.Places.{serials_fit_reset}
use Rattle.unit_control.proofs.control.Control.reset.Goals as goal

pub invariant_of-self : goal.invariant_of-self
invariant_of-self c = (
  subst (λ (ss : List Attached). All (HasCountedSerial (c.self.inside.count + 1)) ss) (sym c.tell_others.ensures.items)
      (serials_fit_reset c.args.session c.self.inside.sessions.items c.self.inside.count c.self.invariant.0),
  omega (arith, c.tell_others.ensures.capacity, c.self.invariant.1),
)
