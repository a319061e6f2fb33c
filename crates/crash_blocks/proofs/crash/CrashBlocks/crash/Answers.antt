use Rattle.std.proofs.Common.{rules, arith, ◌∙◌, ◌≡◌, ◌*◌, ap, sym, subst, ℕ, List, length, reverse, IsTrue}
use Rattle.block_file.specs.Cut.{cut}
use Rattle.block_file.specs.CutLaws.{length-cut}
use Rattle.crash_blocks.specs.declared.event.Event.{Event}
use Rattle.crash_blocks.specs.Events.{runs_fit}
use Rattle.crash_blocks.specs.Values.{picked_of, values_of, IsPicked}
use Rattle.crash_blocks.proofs.ValuesLaws.{newest_left, one_more, picked_left}
use Rattle.crash_blocks.proofs.crash.CrashBlocks.crash.Goals as goal

pub left_of-left-requires : goal.left_of-left-requires
left_of-left-requires c = record {
  within = omega (arith, c.args.self.long, c.loop-k.invariant.size, ap length c.deref.ensures.value);
}

pub loop-k-preserved : goal.loop-k-preserved
loop-k-preserved c =
    let d = c.args.self in
    let starts : c.deref.result.now ≡ d.start.items = c.deref.ensures.value in
    let done : c.deref-in-loop-k.result.now ≡ d.events.items = c.deref-in-loop-k.ensures.value in
    let long : length c.deref.result.now ≡ 512 * d.inner.count = ap length starts ∙ d.long in
    let fit : IsTrue (runs_fit d.inner.count (reverse c.deref-in-loop-k.result.now)) =
    subst (λ (es : List Event). IsTrue (runs_fit d.inner.count (reverse es))) (sym done) d.runs in
    let left : c.left_of-left.result ≡ picked_of c.args.pick (values_of (cut d.inner.count d.start.items) (reverse d.events.items) c.loop-k.k) c.loop-k.k =
    c.left_of-left.ensures d.inner.count long (omega arith) fit
    ∙ ap (λ (s : List ℕ). picked_of c.args.pick (values_of (cut d.inner.count s) (reverse c.deref-in-loop-k.result.now) c.loop-k.k) c.loop-k.k) starts
    ∙ ap (λ (es : List Event). picked_of c.args.pick (values_of (cut d.inner.count d.start.items) (reverse es) c.loop-k.k) c.loop-k.k) done in
    record {
      size = search rules;
      picked = one_more (cut c.loop-k.inner.count c.loop-k.inner.bytes.items) _ c.loop-k.k c.left_of-left.result
          (λ j. picked_of c.args.pick (values_of (cut d.inner.count d.start.items) (reverse d.events.items) j) j)
          (omega arith) (omega (arith, length-cut c.loop-k.inner.count c.loop-k.inner.bytes.items)) c.write_run.ensures.written left
          c.loop-k.invariant.picked;
    }

pub returns-clause-outcome : goal.returns-clause-outcome
returns-clause-outcome c =
    picked_left c.args.pick c.args.self.inner.count (cut c.args.self.inner.count c.args.self.start.items)
    (reverse c.args.self.events.items) _ (length-cut c.args.self.inner.count c.args.self.start.items) c.args.self.runs
    (length-cut c.loop-k.inner.count c.loop-k.inner.bytes.items ∙ c.loop-k.invariant.size)
    (λ k lt. c.loop-k.invariant.picked k (omega arith))

pub returns-clause-newest : goal.returns-clause-newest
returns-clause-newest c =
    newest_left c.args.pick c.args.self.inner.count (cut c.args.self.inner.count c.args.self.start.items)
    (reverse c.args.self.events.items) _ _ (length-cut c.args.self.inner.count c.args.self.start.items) c.args.self.runs
    c.args.self.is (λ k lt. c.loop-k.invariant.picked k (omega arith))
