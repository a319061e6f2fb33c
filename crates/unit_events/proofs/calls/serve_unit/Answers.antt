use Rattle.std.proofs.Common.{◌&&◌, ◌∙◌, refl, ap}
use Rattle.unit_control.specs.Choice.{choice_of}
use Rattle.unit_events.proofs.Counted.{counts_all}
use Rattle.unit_events.proofs.calls.serve_unit.Goals as goal

pub returns-in-Ok : goal.returns-in-Ok
returns-in-Ok g c = rw (← c.as_slice.ensures)
    (λ s h legal behind serial.
    let did = c.in-Ok.ensures.done s h legal behind in (
      choice_of c.in-Ok.reply (g.B.Blocks.contents c.step.new.self.device) c.step.new.self.control.lasting,
      ap (λ r. r.entries) c.row-at.ensures
          ∙ counts_all (g.O.Opener.claims && g.B.Blocks.claims) g.B.Blocks.contents g.B.Blocks.failures g.O.Opener.opens_failed
          g.F.Blocks.failures s h c.args.unit.now legal behind,
      refl,
      did.0,
      did.1,
      did.2,
    ))
