use Rattle.std.proofs.Common.{length, arith, refl, vec_capacity}
use Rattle.std.proofs.lemmas.Option.{slice_get_read}
use Rattle.session_units.specs.Late.{late_of}
use Rattle.session_units.specs.Submitted.{IsServed}
use Rattle.live_sessions.proofs.Slots.{served_stays, at_no_unit, at_unit, placed_at, still_placed}
use Rattle.live_sessions.proofs.target.SessionTarget.serve_at.Goals as goal

pub invariant_of-self-2 : goal.invariant_of-self-2
invariant_of-self-2 g c =
    let known = c.self.inside.at.items in
    let place = c.from.result in
    still_placed (g.U.LogicalUnits.unit_count c.self.inside.device.now.units) (vec_capacity c.self.inside.seen) c.self.inside.connection
    c.self.inside.begun known c.self.inside.seen.items place c.in-Some.at.now c.serve.new.self
    (slice_get_read known (length known) place c.in-Some.at.now refl
    (omega (arith, c.in-Some.ensures.variant.0 refl, c.self.inside.at.ok.0)) c.in-Some.ensures.value)
    (served_stays g.U.LogicalUnits.claims (late_of g.G.Gate.is_late g.G.Gate.lasts) g.U.LogicalUnits.opening c.in-Some.at.now
    c.args.asked.now c.args.bytes.now c.serve.result c.serve.new.self c.serve.ensures) c.self.invariant

pub serve-requires : goal.serve-requires
serve-requires g c =
    let known = c.self.inside.at.items in
    let place = c.from.result in
    placed_at (g.U.LogicalUnits.unit_count c.self.inside.device.now.units) known place c.in-Some.at.now c.self.invariant.0
    (slice_get_read known (length known) place c.in-Some.at.now refl
    (omega (arith, c.in-Some.ensures.variant.0 refl, c.self.inside.at.ok.0)) c.in-Some.ensures.value)

pub returns-in_default : goal.returns-in_default
returns-in_default g c =
    at_no_unit _ c.args.self.now c.from.result c.args.unit _ _ c.self.view_is c.from.ensures
    (λ lt. c.in_default.ensures.variant.1 (omega (arith, lt, c.self.inside.at.ok.0))) (refl, c.self.view_is)

pub returns : goal.returns
returns g c =
    let known = c.self.inside.at.items in
    let place = c.from.result in
    at_unit _ c.args.self.now place c.args.unit c.in-Some.at.now c.serve.new.self _
    (λ a after. IsServed g.U.LogicalUnits.claims (late_of g.G.Gate.is_late g.G.Gate.lasts) g.U.LogicalUnits.opening a c.args.asked.now
    c.args.bytes.now c.serve.result after) c.self.view_is c.from.ensures
    (slice_get_read known (length known) place c.in-Some.at.now refl
    (omega (arith, c.in-Some.ensures.variant.0 refl, c.self.inside.at.ok.0)) c.in-Some.ensures.value) c.serve.ensures
