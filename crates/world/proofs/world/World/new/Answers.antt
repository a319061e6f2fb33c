use Rattle.std.proofs.Common.{◌&&◌, sym, subst, []}
use Rattle.world.specs.Traffic.{Traffic}
use Rattle.world.specs.Worlds.{Stands, opening_of}
use Rattle.world.proofs.Standing.{stands_new}
use Rattle.world.proofs.world.World.new.Goals as goal

pub returns-clause-stands : goal.returns-clause-stands
returns-clause-stands g c =
    subst
    (λ (t : Traffic).
    Stands (g.O.Opener.claims && g.B.Blocks.claims) g.B.Blocks.contents g.B.Blocks.failures g.O.Opener.opens_failed
    g.F.Blocks.failures (opening_of g.B.Blocks.contents c.args.units.items) (λ place. [])
    (record { units = c.args.units.items; traffic = t }))
    (sym c.in_ok-records.ensures)
    (stands_new (g.O.Opener.claims && g.B.Blocks.claims) g.B.Blocks.contents g.B.Blocks.failures g.O.Opener.opens_failed
    g.F.Blocks.failures c.args.units.items c.requires)
