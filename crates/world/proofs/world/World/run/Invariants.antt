use Rattle.std.proofs.Common.{◌&&◌, take}
use Rattle.world.specs.Worlds.{AllHappen}
use Rattle.world.proofs.world.World.run.Given as goal

-- the events so far have happened
abbrev pub invariant-loop-event : goal.invariant-loop-event
invariant-loop-event g l =
    AllHappen (g.O.Opener.claims && g.B.Blocks.claims) g.B.Blocks.contents g.B.Blocks.failures g.O.Opener.opens_failed
    g.F.Blocks.failures (take l.event-index l.events) l.fn.self l.self
