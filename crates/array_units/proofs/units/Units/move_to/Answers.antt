use Rattle.std.proofs.Common.{ℕ, subst}
use Rattle.std.specs.Prelude.{IfErr, IfOk}
use Rattle.unit_history.specs.Calls.{HasMoved, HasStayed}
use Rattle.unit_entries.specs.Devices.{devices}
use Rattle.array_units.proofs.units.Units.move_to.Goals as goal

pub returns-clause-moved : goal.returns-clause-moved
returns-clause-moved g c =
    let r = c.move_to.result in
    subst (λ (u : ℕ). IfOk r.1 (λ told. HasMoved (devices g.B.Blocks g.F.Blocks g.O.Opener) (g.N.ArrayNaming.opening u)
    c.args.list.now r.0.1 told)) c.at.ensures c.move_to.ensures.moved

pub returns-clause-stays : goal.returns-clause-stays
returns-clause-stays g c =
    let r = c.move_to.result in
    subst (λ (u : ℕ). IfErr r.1 (λ why. HasStayed (devices g.B.Blocks g.F.Blocks g.O.Opener) (g.N.ArrayNaming.opening u)
    c.args.list.now r.0.1 why)) c.at.ensures c.move_to.ensures.stays
