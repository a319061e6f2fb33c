use Rattle.std.proofs.Common.{◌&&◌}
use Rattle.unit_entries.proofs.Behind.{opens_behind, opens_history}
use Rattle.unit_entries.proofs.laws.a_unit_that_opened_has_the_history_without_an_entry.Goals as goal

pub returns-clause-legal : goal.returns-clause-legal
returns-clause-legal g c =
    opens_history (g.O.Opener.claims && g.B.Blocks.claims) g.B.Blocks.contents g.B.Blocks.failures
    g.O.Opener.opens_failed g.F.Blocks.failures (g.N.ArrayNaming.opening g.row.U) c.args.unit.now c.requires.state c.requires.opens

pub returns-clause-behind : goal.returns-clause-behind
returns-clause-behind g c =
    opens_behind (g.O.Opener.claims && g.B.Blocks.claims) g.B.Blocks.contents g.B.Blocks.failures
    g.O.Opener.opens_failed g.F.Blocks.failures (g.N.ArrayNaming.opening g.row.U) c.args.unit.now c.requires.state
