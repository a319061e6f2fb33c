use Rattle.std.proofs.Common.{◌&&◌}
use Rattle.unit_entries.proofs.Behind.{detach_done}
use Rattle.unit_entries.proofs.machine.UnitMachineNotedOpened.detach.Goals as goal

pub returns-in-Ok-clause-done : goal.returns-in-Ok-clause-done
returns-in-Ok-clause-done g c =
    detach_done (g.O.Opener.claims && g.B.Blocks.claims) g.B.Blocks.contents g.B.Blocks.failures g.O.Opener.opens_failed
    g.F.Blocks.failures c.args.self.now c.detach.new.self c.args.session c.in-Ok.ensures.was c.in-Ok.ensures.control
    c.detach.ensures.device c.detach.ensures.opener c.detach.ensures.file
