use Rattle.std.proofs.Common.{◌&&◌}
use Rattle.unit_entries.specs.NoEntry.{StaysBehind}
use Rattle.unit_control.specs.Choice.{Fine}
use Rattle.unit_control.specs.Entry.{Move}
use Rattle.unit_state.specs.declared.unit.MoveFault.{MoveFault}
use Rattle.world.specs.Records.{traffic_of}
use Rattle.world.specs.Worlds.{WorldValue}
use Rattle.world.specs.declared.event.Event.TheVariants as events
use Rattle.world.proofs.Again.{there_is}
use Rattle.world.proofs.Standing.{unit_goes}
use Rattle.world.proofs.world.World.move_to.Goals as goal

pub returns : goal.returns
returns g c =
    let v : WorldValue g.row.B.Denot g.row.F.Denot g.row.O.Denot = record { units = c.self.inside.units.items; traffic = traffic_of c.self.inside.records } in
    let list = c.args.list.now in
    let u = c.in-Some in
    rw (← c.self.view_is)
    (unit_goes (g.O.Opener.claims && g.B.Blocks.claims) g.B.Blocks.contents g.B.Blocks.failures g.O.Opener.opens_failed
    g.F.Blocks.failures
    (events.Move c.args.place list) v c.args.place u.unit.now c.move_unit.new.unit (Move list Fine)
    (λ s h. (why : MoveFault) × StaysBehind s h list why)
    (there_is v.units c.args.place u.unit.now u.ensures.item.3.0 u.ensures.item.1)
    (rw (← c.as_slice.ensures) c.move_unit.ensures) (λ opening past new is. is))
