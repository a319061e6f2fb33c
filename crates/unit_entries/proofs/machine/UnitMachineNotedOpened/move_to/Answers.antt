use Rattle.std.proofs.Common.{◌&&◌}
use Rattle.unit_entries.proofs.Behind.{move_done}
use Rattle.unit_entries.proofs.machine.UnitMachineNotedOpened.move_to.Goals as goal

pub returns-in-Ok-clause-done : goal.returns-in-Ok-clause-done
returns-in-Ok-clause-done g c =
    move_done (g.O.Opener.claims && g.B.Blocks.claims) g.B.Blocks.contents g.B.Blocks.failures g.O.Opener.opens_failed
    g.F.Blocks.failures c.args.self.now c.move_to.new.self c.args.list.now c.in-Ok.change c.move_to.result c.in-Ok.is
    c.move_to.ensures.moved c.move_to.ensures.failures
