use Rattle.std.proofs.Common.{◌&&◌}
use Rattle.unit_entries.specs.NoEntry.{IsSessionGone}
use Rattle.unit_control.specs.Entry.{Reset}
use Rattle.world.specs.Records.{traffic_of}
use Rattle.world.specs.Worlds.{WorldValue}
use Rattle.world.specs.declared.event.Event.TheVariants as events
use Rattle.world.proofs.Again.{there_is}
use Rattle.world.proofs.Standing.{unit_goes}
use Rattle.world.proofs.world.World.reset.Goals as goal

pub returns : goal.returns
returns g c =
    let v : WorldValue g.row.B.Denot g.row.F.Denot g.row.O.Denot = record { units = c.self.inside.units.items; traffic = traffic_of c.self.inside.records } in
    let x = c.in-Some.one.now in
    let u = c.in-Some-get_mut in
    rw (← c.self.view_is)
    (unit_goes (g.O.Opener.claims && g.B.Blocks.claims) g.B.Blocks.contents g.B.Blocks.failures g.O.Opener.opens_failed
    g.F.Blocks.failures
    (events.Reset c.args.session) v x.place u.unit.now c.reset_unit.new.unit (Reset x.id) (λ s h. IsSessionGone s h x.id)
    (there_is v.units x.place u.unit.now u.ensures.item.3.0 u.ensures.item.1) c.reset_unit.ensures
    (λ opening past new is. rw c.in-Some.ensures is))
