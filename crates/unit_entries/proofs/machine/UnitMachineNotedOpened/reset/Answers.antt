use Rattle.std.proofs.Common.{◌&&◌}
use Rattle.unit_entries.proofs.Behind.{reset_done}
use Rattle.unit_entries.proofs.machine.UnitMachineNotedOpened.reset.Goals as goal

pub returns-in-Ok-clause-done : goal.returns-in-Ok-clause-done
returns-in-Ok-clause-done g c =
    reset_done (g.O.Opener.claims && g.B.Blocks.claims) g.B.Blocks.contents g.B.Blocks.failures g.O.Opener.opens_failed
    g.F.Blocks.failures c.args.self.now c.reset.new.self c.args.session c.in-Ok.ensures.was c.in-Ok.ensures.control
    c.reset.ensures.device c.reset.ensures.opener c.reset.ensures.file
