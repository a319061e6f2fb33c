use Rattle.std.proofs.Common.{◌&&◌, refl}
use Rattle.unit_entries.proofs.Behind.{attach_done, joined_last}
use Rattle.unit_entries.proofs.machine.UnitMachineNotedOpened.attach.Goals as goal

pub returns-in-Ok-clause-done : goal.returns-in-Ok-clause-done
returns-in-Ok-clause-done g c =
    attach_done (g.O.Opener.claims && g.B.Blocks.claims) g.B.Blocks.contents g.B.Blocks.failures g.O.Opener.opens_failed
    g.F.Blocks.failures c.args.self.now c.attach.new.self _ c.in-Ok.id
    c.in-Ok.ensures.had c.in-Ok.ensures.id c.in-Ok.ensures.control c.attach.ensures.device c.attach.ensures.opener
    c.attach.ensures.file

pub returns-in-Ok-clause-entry : goal.returns-in-Ok-clause-entry
returns-in-Ok-clause-entry g c = (
  joined_last (g.O.Opener.claims && g.B.Blocks.claims) g.B.Blocks.contents g.B.Blocks.failures g.O.Opener.opens_failed
      g.F.Blocks.failures c.args.self.now.control c.attach.new.self.control _ c.in-Ok.ensures.control,
  λ session. (refl, refl),
)
