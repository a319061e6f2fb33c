use Rattle.std.proofs.Common.{◌&&◌, ◌∙◌, ap}
use Rattle.world.specs.Records.{traffic_of}
use Rattle.world.specs.Worlds.{WorldValue}
use Rattle.world.specs.Traffic.{Traffic, attached}
use Rattle.world.proofs.Again.{there_is}
use Rattle.world.proofs.Standing.{attach_goes, attach_refused}
use Rattle.world.proofs.world.World.attach.Goals as goal

pub returns-in-Some-attach_unit-clause-done : goal.returns-in-Some-attach_unit-clause-done
returns-in-Some-attach_unit-clause-done g c =
    let v : WorldValue g.row.B.Denot g.row.F.Denot g.row.O.Denot =
    record { units = c.self.inside.units.items; traffic = traffic_of c.self.inside.records } in
    let u = c.in-Some in
    rw (← c.self.view_is)
    (attach_goes (g.O.Opener.claims && g.B.Blocks.claims) g.B.Blocks.contents g.B.Blocks.failures g.O.Opener.opens_failed
    g.F.Blocks.failures v c.args.place c.in-Some-attach_unit.id c.args.port.now c.args.group u.unit.now c.attach_unit.new.unit
    (there_is v.units c.args.place u.unit.now u.ensures.item.3.0 u.ensures.item.1)
    (rw (← c.in_ok-port.ensures) c.in-Some-attach_unit.ensures) _
    (c.attach.ensures ∙ ap (λ (t : Traffic). attached t c.args.place c.in-Some-attach_unit.id) c.in_ok-make_room.ensures.same))

pub returns-in_default-attach_unit-clause-done : goal.returns-in_default-attach_unit-clause-done
returns-in_default-attach_unit-clause-done g c =
    let v : WorldValue g.row.B.Denot g.row.F.Denot g.row.O.Denot =
    record { units = c.self.inside.units.items; traffic = traffic_of c.self.inside.records } in
    let u = c.in-Some in
    rw (← c.self.view_is, c.in_ok-make_room.ensures.same)
    (attach_refused (g.O.Opener.claims && g.B.Blocks.claims) g.B.Blocks.contents g.B.Blocks.failures g.O.Opener.opens_failed
    g.F.Blocks.failures v c.args.place c.args.port.now c.args.group u.unit.now c.attach_unit.new.unit
    (there_is v.units c.args.place u.unit.now u.ensures.item.3.0 u.ensures.item.1)
    (rw (← c.in_ok-port.ensures) c.in_default-attach_unit.ensures))
