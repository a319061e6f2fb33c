use Rattle.std.proofs.Common.{◌≡◌, ◌&&◌, ℕ, subst}
use Rattle.std.specs.Prelude.{IfErr, IfOk}
use Rattle.registrants.specs.Nexus.{through}
use Rattle.unit_history.specs.Calls.{HasAttached, HasNoRoom}
use Rattle.array_units.proofs.units.Units.attach.Goals as goal

pub returns-clause-attached : goal.returns-clause-attached
returns-clause-attached g c =
    subst (λ (u : ℕ). IfOk c.attach.result (λ p. (p.place ≡ u)
    × HasAttached (g.O.Opener.claims && g.B.Blocks.claims) (g.N.ArrayNaming.opening u) (through c.args.port c.args.group) p.pass))
    c.at.ensures c.attach.ensures.attached

pub returns-clause-full : goal.returns-clause-full
returns-clause-full g c =
    subst (λ (u : ℕ). IfErr c.attach.result (λ f. (f.0 ≡ u)
    × HasNoRoom (g.O.Opener.claims && g.B.Blocks.claims) (g.N.ArrayNaming.opening u) (through c.args.port c.args.group) f.1))
    c.at.ensures c.attach.ensures.full
