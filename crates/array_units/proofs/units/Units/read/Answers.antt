use Rattle.std.proofs.Common.{◌&&◌, ℕ, subst}
use Rattle.array_units.specs.Rows.{IsRead}
use Rattle.array_units.proofs.units.Units.read.Goals as goal

pub returns : goal.returns
returns g c =
    subst (λ (p : ℕ). IsRead (g.O.Opener.claims && g.B.Blocks.claims) (g.N.ArrayNaming.opening p) p c.read.result) c.at.ensures
    c.read.ensures
