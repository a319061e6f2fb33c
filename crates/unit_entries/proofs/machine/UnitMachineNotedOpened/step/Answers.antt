use Rattle.std.proofs.Common.{◌&&◌}
use Rattle.unit_entries.proofs.Behind.{gone_cause, step_done}
use Rattle.unit_entries.proofs.machine.UnitMachineNotedOpened.step.Goals as goal

pub returns-in-Reply-clause-done : goal.returns-in-Reply-clause-done
returns-in-Reply-clause-done g c =
    step_done (g.O.Opener.claims && g.B.Blocks.claims) g.B.Blocks.contents g.B.Blocks.failures g.O.Opener.opens_failed
    g.F.Blocks.failures c.args.self.now c.step.new.self c.args.session c.args.serial c.args.by_group.now c.args.ask.now
    c.args.bytes.now c.in-Reply.reply c.in-Reply.ensures.entry c.in-Reply.ensures.fine

pub returns-in-Reply-clause-worked : goal.returns-in-Reply-clause-worked
returns-in-Reply-clause-worked g c = record {
  counted = c.in-Reply.ensures.counted;
  lasts = c.in-Reply.ensures.lasts;
  left = c.in-Reply.ensures.left;
  same = c.step.ensures.same;
  restart = c.step.ensures.restart;
  stop = c.step.ensures.stop;
  unreached = c.in-Reply.ensures.unreached;
  unsaved = c.step.ensures.unsaved;
  unopened = c.step.ensures.unopened;
  opened = c.step.ensures.opened;
}

pub returns-in-Gone-clause-cause : goal.returns-in-Gone-clause-cause
returns-in-Gone-clause-cause g c =
    gone_cause (g.O.Opener.claims && g.B.Blocks.claims) g.B.Blocks.contents g.B.Blocks.failures g.O.Opener.opens_failed
    g.F.Blocks.failures c.args.self.now c.args.session c.args.serial c.in-Gone.ensures.routed
