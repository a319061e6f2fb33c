use Rattle.std.proofs.Common.{arith, ap, false, length, sym, subst, map, List, vec_capacity}
use Rattle.login.specs.declared.status.SessionType.TheVariants.{Normal}
use Rattle.registrants.specs.Nexus.{through}
use Rattle.live_sessions.specs.Target.{Sight, IsGrounded, IsTurnedBack, Leaves}
use Rattle.live_sessions.specs.declared.target.BeginFault.{BeginFault}
use Rattle.live_sessions.proofs.Refusing.{behind_all, grounds_of, grounds_of_units}
use Rattle.live_sessions.proofs.target.attach_and_enter.Goals as goal

pub returns-in-Err-clause-grounds : goal.returns-in-Err-clause-grounds
returns-in-Err-clause-grounds g c = grounds_of_units g.S.Sessions.says false c.in-Err.fault c.in-Err.ensures.of_units

pub returns-in-Err-enter_in_turn-clause-turned_back : goal.returns-in-Err-enter_in_turn-clause-turned_back
returns-in-Err-enter_in_turn-clause-turned_back g c =
    let claims = g.U.LogicalUnits.claims in
    let opening = g.U.LogicalUnits.opening in
    let f = g.U.LogicalUnits.seen in
    let nexus = through c.args.port c.args.group in
    let units = g.U.LogicalUnits.unit_count c.args.units.now in
    let before : List Sight = map f c.args.seen.now.items in
    let after : List Sight = map f c.retire_all.new.seen.items in
    let leaves : Leaves claims opening c.attach_in_turn.new.attached.items before after =
    subst (λ v. Leaves claims opening c.attach_in_turn.new.attached.items (map f v.items) after) c.in-Ok.ensures.unseen
    c.retire_all.ensures.over in
    subst (λ (fault : BeginFault). IsTurnedBack claims opening nexus Normal units fault before after) (sym c.from.ensures)
    (behind_all claims opening nexus units c.attach_in_turn.new.attached.items before after c.in-Err-enter_in_turn.fault
    c.in-Ok.ensures.joined leaves)

pub returns-in-Err-enter_in_turn-clause-grounds : goal.returns-in-Err-enter_in_turn-clause-grounds
returns-in-Err-enter_in_turn-clause-grounds g c =
    subst (λ (fault : BeginFault). IsGrounded g.S.Sessions.says false fault) (sym c.from.ensures)
    (grounds_of g.S.Sessions.says false c.in-Err-enter_in_turn.fault c.in-Err-enter_in_turn.ensures.refused)

pub retire_all-requires-clause-placed : goal.retire_all-requires-clause-placed
retire_all-requires-clause-placed g c = c.in-Ok.ensures.placed

pub retire_all-requires-clause-room : goal.retire_all-requires-clause-room
retire_all-requires-clause-room g c =
    let e = c.in-Ok.ensures in
    omega (arith, ap (λ v. length v.items) e.unseen, ap vec_capacity e.unseen, e.joined.0, c.requires.room)

pub returns-in-Err-clause-turned_back : goal.returns-in-Err-clause-turned_back
returns-in-Err-clause-turned_back g c = c.in-Err.ensures.turned_back
