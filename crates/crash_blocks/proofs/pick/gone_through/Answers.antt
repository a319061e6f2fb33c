use Rattle.std.proofs.Common.{arith, subst, reverse, List}
use Rattle.std.proofs.lemmas.List.{take_all}
use Rattle.block_file.specs.Cut.{cut}
use Rattle.crash_blocks.specs.declared.event.Event.{Event}
use Rattle.crash_blocks.specs.Values.{HasPast}
use Rattle.crash_blocks.proofs.ValuesLaws.{gone_first, gone_next}
use Rattle.crash_blocks.proofs.pick.gone_through.Goals as goal

pub loop-place-init : goal.loop-place-init
loop-place-init c = record {
  few = omega arith;
  past = λ size long lt fit. gone_first c.args.start.now c.args.k c.args.wanted _ c.block_in-holds.ensures size lt;
}

pub loop-place-preserved : goal.loop-place-preserved
loop-place-preserved c = record {
  few = omega (arith, c.go_on.ensures.written, c.loop-place.invariant.few);
  past = gone_next c.args.start.now c.args.events.now c.loop-place.place _ c.args.k c.args.wanted _ c.go_on.new.past
      c.index-events-place.is (omega arith) c.go_on.ensures.past c.loop-place.invariant.past;
}

pub returns : goal.returns
returns c = λ size long lt fit.
    subst (λ (es : List Event). HasPast (cut size c.args.start.now) (reverse es) c.args.k c.args.wanted c.loop-place.past)
    (take_all c.loop-place.place c.args.events.now (omega arith)) (c.loop-place.invariant.past size long lt fit)
