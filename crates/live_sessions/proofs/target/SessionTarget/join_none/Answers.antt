use Rattle.std.proofs.Common.{◌∙◌, false, refl, sym, ap, subst}
use Rattle.login.specs.declared.status.SessionType.TheVariants.{Discovery}
use Rattle.registrants.specs.Nexus.{through}
use Rattle.live_sessions.specs.Target.{TargetValue, IsGrounded, IsTurnedBack}
use Rattle.live_sessions.specs.declared.target.BeginFault.{BeginFault}
use Rattle.live_sessions.proofs.Refusing.{at_none, grounds_of, has_begun, turned_back, unasked}
use Rattle.live_sessions.proofs.target.SessionTarget.join_none.Goals as goal

pub returns-in-Ok : goal.returns-in-Ok
returns-in-Ok g c = (
  c.in-Ok.ensures.tsih,
  has_begun g.U.LogicalUnits.claims g.S.Sessions.says g.U.LogicalUnits.opening (record c.args.self.now { asked = false }) _
      (c.self.view_is ∙ unasked c.args.self.now c.requires.asked) c.args.port Discovery c.in-Ok.number c.in-Ok.tsih _ _
      c.requires.name refl c.requires.fresh (ap (λ (v : TargetValue). v.seen) c.self.view_is)
      (ap (λ (v : TargetValue). v.at) c.self.view_is ∙ c.requires.fresh.1) c.in-Ok.ensures.entered,
)

pub returns-in-Err : goal.returns-in-Err
returns-in-Err g c =
    let claims = g.U.LogicalUnits.claims in
    let table = g.S.Sessions.says in
    let opening = g.U.LogicalUnits.opening in
    let now : TargetValue = c.args.self.now in
    let nexus = through c.args.port now.group in
    turned_back claims table opening (record now { asked = false }) now (unasked now c.requires.asked) c.args.port Discovery c.from.result
    now.at now.seen now.seen c.requires.fresh.0 refl refl
    (subst (λ (fault : BeginFault). IsGrounded table false fault) (sym c.from.ensures)
    (grounds_of table false c.in-Err.fault c.in-Err.ensures.refused))
    (subst (λ (fault : BeginFault). IsTurnedBack claims opening nexus Discovery now.units fault now.seen now.seen) (sym c.from.ensures)
    (at_none claims opening nexus now.units now.seen c.in-Err.fault))
