use Rattle.std.proofs.Common.{ℕ, subst}
use Rattle.unit_history.specs.Calls.{HasFlushed}
use Rattle.unit_entries.specs.Devices.{devices}
use Rattle.array_units.proofs.units.Units.flush.Goals as goal

pub returns : goal.returns
returns g c =
    subst (λ (p : ℕ). HasFlushed (devices g.B.Blocks g.F.Blocks g.O.Opener) (g.N.ArrayNaming.opening p) c.flush.result) c.at.ensures
    c.flush.ensures
