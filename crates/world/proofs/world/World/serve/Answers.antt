use Rattle.std.proofs.Common.{◌&&◌}
use Rattle.world.specs.Records.{traffic_of}
use Rattle.world.specs.Worlds.{WorldValue}
use Rattle.world.proofs.Again.{there_is}
use Rattle.world.proofs.Standing.{serve_goes}
use Rattle.world.proofs.world.World.serve.Goals as goal

pub returns : goal.returns
returns g c =
    let v : WorldValue g.row.B.Denot g.row.F.Denot g.row.O.Denot = record { units = c.self.inside.units.items; traffic = traffic_of c.self.inside.records } in
    let x = c.in-Some.one.now in
    let u = c.in-Some-get_mut in
    rw (← c.self.view_is)
    (serve_goes (g.O.Opener.claims && g.B.Blocks.claims) g.B.Blocks.contents g.B.Blocks.failures g.O.Opener.opens_failed
    g.F.Blocks.failures
    v c.args.session x c.in-InLane.job u.unit.now c.serve_unit-end.new.unit c.in-Some.ensures c.in-InLane.is
    (there_is v.units x.place u.unit.now u.ensures.item.3.0 u.ensures.item.1) _ _ c.serve_unit-end.ensures c.end.ensures)
