use Rattle.std.proofs.Common.{arith, ap, length, map, subst, sym, List, ◌≤◌}
use Rattle.login.specs.declared.status.SessionType.TheVariants.{Normal}
use Rattle.registrants.specs.Nexus.{through}
use Rattle.std.specs.Vec.{vec_capacity}
use Rattle.session_units.specs.Submitted.{At}
use Rattle.live_sessions.proofs.Attaching.{Onward, onward}
use Rattle.live_sessions.proofs.Refusing.{at_a_unit, at_once}
use Rattle.live_sessions.specs.Target.{Leaves}
use Rattle.live_sessions.proofs.target.attach_in_turn.Goals as goal

pub loop-unit-preserved : goal.loop-unit-preserved
loop-unit-preserved g c =
    let before = c.loop-unit.invariant in
    let nexus = through c.args.port.now c.args.group in
    let done : Onward g.U.LogicalUnits.claims g.U.LogicalUnits.opening nexus (g.U.LogicalUnits.unit_count c.args.units.now)
    c.loop-unit.unit c.push_reserved.new.self.items =
    subst (λ (at : List At). Onward g.U.LogicalUnits.claims g.U.LogicalUnits.opening nexus
    (g.U.LogicalUnits.unit_count c.args.units.now) c.loop-unit.unit at) (sym c.push_reserved.ensures.items)
    (onward g.U.LogicalUnits.claims g.U.LogicalUnits.opening nexus (g.U.LogicalUnits.unit_count c.args.units.now)
    c.loop-unit.unit _ _ (omega (arith, c.loop-unit-test.true, c.count-count.ensures)) before.0 before.2 before.3 c.in-Ok.ensures.attached) in
    let room : c.count-count.result ≤ vec_capacity c.push_reserved.new.self = omega (arith, c.push_reserved.ensures.capacity, before.1) in
    (done.count, room, done.attached, done.placed, before.4)

pub returns-in-Err-clause-turned_back : goal.returns-in-Err-clause-turned_back
returns-in-Err-clause-turned_back g c =
    let before = c.loop-unit.invariant in
    at_a_unit g.U.LogicalUnits.claims g.U.LogicalUnits.opening g.U.LogicalUnits.seen _ _ c.loop-unit.unit c.loop-unit.attached.items
    (map g.U.LogicalUnits.seen c.args.seen.now.items) c.retire_all.new.seen.items c.refused_at.new.seen.items c.in-Err.full
    c.refused_at.result c.refused_at.ensures.fault c.in-Err.ensures.full
    (subst (λ v. Leaves g.U.LogicalUnits.claims g.U.LogicalUnits.opening c.loop-unit.attached.items
    (map g.U.LogicalUnits.seen v.items) (map g.U.LogicalUnits.seen c.retire_all.new.seen.items)) before.4 c.retire_all.ensures.over)
    before.2 before.0

pub returns-clause-unseen : goal.returns-clause-unseen
returns-clause-unseen g c = c.loop-unit.invariant.4

pub returns-then-is_err-clause-turned_back : goal.returns-then-is_err-clause-turned_back
returns-then-is_err-clause-turned_back g c = at_once g.U.LogicalUnits.claims g.U.LogicalUnits.opening
    (through c.args.port.now c.args.group) Normal (g.U.LogicalUnits.unit_count c.args.units.now)
    (map g.U.LogicalUnits.seen c.args.seen.now.items)

pub retire_all-requires-clause-placed : goal.retire_all-requires-clause-placed
retire_all-requires-clause-placed g c = c.loop-unit.invariant.3

pub retire_all-requires-clause-room : goal.retire_all-requires-clause-room
retire_all-requires-clause-room g c =
    let before = c.loop-unit.invariant in
    omega (
      arith,
      ap (λ v. length v.items) before.4,
      ap vec_capacity before.4,
      before.0,
      c.requires.room,
      c.loop-unit-test.true,
      c.count-count.ensures,
    )
