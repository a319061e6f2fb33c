use Rattle.std.proofs.Common.{◌∙◌, sym, ap, map}
use Rattle.registrants.specs.Nexus.{through}
use Rattle.scsi_types.specs.Nexus.{Port}
use Rattle.live_sessions.specs.Target.{TargetValue, is_taken}
use Rattle.live_sessions.proofs.Refusing.{asked_twice, fresh_of, grounds_of_unnamed, turned_back, unnamed}
use Rattle.live_sessions.proofs.target.SessionTarget.try_begin.Goals as goal

pub returns-in-Err : goal.returns-in-Err
returns-in-Err g c =
    let claims = g.U.LogicalUnits.claims in
    let opening = g.U.LogicalUnits.opening in
    let port : Port = record { name = c.args.name.now; isid = c.args.isid } in
    let fault = c.in-Err.fault in
    let fresh =
    fresh_of c.self.inside.connection c.in-Some.connection _ _ _ (sym c.take.ensures.value ∙ c.in-Some.is) c.self.invariant.2 in
    turned_back claims g.S.Sessions.says opening c.args.self.now _
    (ap (λ (t : TargetValue). record t { asked = is_taken c.take.new.self }) c.self.view_is
    ∙ ap (λ o. record c.args.self.now { asked = is_taken o }) c.take.ensures.after) port c.args.kind fault _ _ _
    (sym (ap (λ (t : TargetValue). t.begun) c.self.view_is) ∙ fresh.0)
    (ap (λ (t : TargetValue). t.at) c.self.view_is) (ap (λ (t : TargetValue). t.seen) c.self.view_is)
    (grounds_of_unnamed g.S.Sessions.says c.args.self.now.asked port fault c.in-Err.ensures.unnamed)
    (unnamed claims opening (through port c.self.inside.group) c.args.kind
    (g.U.LogicalUnits.unit_count c.self.inside.device.now.units) _ fault c.in-Err.ensures.unnamed)

pub returns-in_default : goal.returns-in_default
returns-in_default g c =
    asked_twice g.U.LogicalUnits.claims g.S.Sessions.says g.U.LogicalUnits.opening _ c.args.self.now _ c.args.kind c.take.new.self
    c.self.view_is (ap is_taken (sym c.take.ensures.value ∙ c.in_default.is)) c.take.ensures.after

pub join-requires-clause-fresh : goal.join-requires-clause-fresh
join-requires-clause-fresh g c =
    let fresh =
    fresh_of c.self.inside.connection c.in-Some.connection _ _ _ (sym c.take.ensures.value ∙ c.in-Some.is) c.self.invariant.2 in
    (fresh.0, fresh.1, ap (map g.U.LogicalUnits.seen) fresh.2)

pub join_none-requires-clause-fresh : goal.join_none-requires-clause-fresh
join_none-requires-clause-fresh g c =
    let fresh =
    fresh_of c.self.inside.connection c.in-Some.connection _ _ _ (sym c.take.ensures.value ∙ c.in-Some.is) c.self.invariant.2 in
    (fresh.0, fresh.1, ap (map g.U.LogicalUnits.seen) fresh.2)
