use Rattle.std.proofs.Common.{◌&&◌, List, subst}
use Rattle.std.proofs.lemmas.List.{take_all}
use Rattle.world.specs.Worlds.{AllHappen}
use Rattle.world.specs.declared.event.Event.{Event}
use Rattle.world.proofs.Standing.{none_happen, of_err, so_far}
use Rattle.world.proofs.world.World.run.Goals as goal

pub loop-event-init : goal.loop-event-init
loop-event-init g c =
    none_happen (g.O.Opener.claims && g.B.Blocks.claims) g.B.Blocks.contents g.B.Blocks.failures g.O.Opener.opens_failed
    g.F.Blocks.failures c.args.self.now

pub loop-event-preserved : goal.loop-event-preserved
loop-event-preserved g c =
    so_far (g.O.Opener.claims && g.B.Blocks.claims) g.B.Blocks.contents g.B.Blocks.failures g.O.Opener.opens_failed
    g.F.Blocks.failures c.args.self.now c.loop-event.self c.step.new.self c.args.events.now c.loop-event.event-index _
    c.loop-event-test.true c.event-item.is c.loop-event.invariant c.in_ok-step.ensures.done

pub returns-in_err-step-clause-err : goal.returns-in_err-step-clause-err
returns-in_err-step-clause-err g c =
    of_err c.from_residual.result (
      c.loop-event.event-index,
      c.loop-event-test.true,
      rw c.in_err-step.ensures.err c.loop-event.invariant,
    )

pub returns-clause-done : goal.returns-clause-done
returns-clause-done g c =
    subst
    (λ (es : List Event).
    AllHappen (g.O.Opener.claims && g.B.Blocks.claims) g.B.Blocks.contents g.B.Blocks.failures g.O.Opener.opens_failed
    g.F.Blocks.failures es c.args.self.now c.loop-event.self)
    (take_all c.loop-event.event-index c.args.events.now c.loop-event-test.false) c.loop-event.invariant
