use Rattle.std.proofs.Common.{◌∙◌, ap, refl}
use Rattle.array_units.specs.Places.{place_of}
use Rattle.array_units.proofs.Naming.{placed}
use Rattle.array_units.proofs.units.seat_next.Goals as goal

pub returns-clause-order : goal.returns-clause-order
returns-clause-order g c =
    (placed c.args.units.now.items c.push.new.self.items c.new.result _ c.in_ok-push.ensures.items refl
    c.requires.order (ap place_of c.new.ensures ∙ (c.in_ok-unit.ensures ∙ c.len.ensures ∙ c.args.units.now.ok.0))).1
