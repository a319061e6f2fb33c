use Rattle.std.proofs.Common.{arith, All, subst, sym, List, ◌+◌, refl}
use Rattle.unit_control.specs.Sessions.{HasCountedSerial}
use Rattle.unit_control.specs.declared.sessions.Attached.{Attached}
use Rattle.unit_control.proofs.Places.{serials_fit}
use Rattle.unit_control.proofs.control.Control.attach.Goals as goal

pub invariant_of-self : goal.invariant_of-self
invariant_of-self c = (
  subst (λ (ss : List Attached). All (HasCountedSerial (c.self.inside.count + 1)) ss) (sym c.replace.ensures.items)
      (serials_fit (record {
        port = c.args.port;
        group = c.args.group;
      }) c.self.inside.sessions.items c.self.inside.count _ refl c.self.invariant.0),
  omega (arith, c.replace.ensures.capacity, c.self.invariant.1),
)
