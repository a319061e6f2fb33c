use Rattle.std.proofs.Common.{◌&&◌, ℕ, subst}
use Rattle.std.specs.Prelude.{IfSome}
use Rattle.unit_history.specs.Calls.{IsRegistry}
use Rattle.array_units.proofs.units.Units.registry.Goals as goal

pub returns : goal.returns
returns g c =
    subst (λ (p : ℕ). IfSome c.registry.result (IsRegistry (g.O.Opener.claims && g.B.Blocks.claims) (g.N.ArrayNaming.opening p)))
    c.at.ensures c.registry.ensures
