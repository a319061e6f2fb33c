use Rattle.std.proofs.Common.{◌∙◌, ◌+◌, ℕ, List, Some, length, arith, ap, sym, refl}
use Rattle.session_rules.specs.{Causes.end_by_reject, declared.end.End.End}
use Rattle.session_stream.specs.Outbox.{OutboxValue}
use Rattle.session.proofs.Exchanges.{stands_opened, fresh_more}
use Rattle.session.proofs.Running.{starts, pdu_came, fault_came, turn_ends, sink_failed, flushed, more_came, input_ended}
use Rattle.session.proofs.Running.{input_failed, taken_all}
use Rattle.session.proofs.stream.serve_turns.Goals as goal

pub loop-reads-init : goal.loop-reads-init
loop-reads-init g c = record {
  running = λ units me opening k. starts g.T.Target.leads units me opening _ _ _ _ _ _ _
      (stands_opened units me opening _ k) c.requires.unwritten c.requires.empty;
  fresh = c.requires.fresh;
  room = c.requires.room;
  serves = ap (λ (z : OutboxValue). z.failed) c.requires.unwritten;
  few = omega (arith, ap (λ (z : OutboxValue). length z.waiting) c.requires.unwritten);
  source_served = refl;
}

pub returns-in-Some : goal.returns-in-Some
returns-in-Some g c units me opening k =
    let i = c.loop-reads.invariant in
    turn_ends (pdu_came (i.running units me opening k) i.serves i.few c.bytes.ensures c.in-Whole.ensures
    c.in-Some.ensures.exchange) _ _ _ _ _ _ refl i.source_served c.finish.ensures

pub returns-in-Faulty : goal.returns-in-Faulty
returns-in-Faulty g c units me opening k =
    let i = c.loop-reads.invariant in
    turn_ends (fault_came (i.running units me opening k) i.serves i.few c.bytes.ensures c.in-Faulty.ensures
    c.fault.ensures) _ _ _ _ _ _
    (ap (λ (z : End). Some z) (sym (c.reject_end-end.ensures
    ∙ ap (λ (z : ℕ). end_by_reject z c.in-Faulty.bhs.now) c.reject_reason.ensures)))
    i.source_served c.finish-in-Faulty.ensures

pub returns-then-has_failed : goal.returns-then-has_failed
returns-then-has_failed g c units me opening k =
    let i = c.loop-reads.invariant in
    sink_failed (pdu_came (i.running units me opening k) i.serves i.few c.bytes.ensures c.in-Whole.ensures
    c.in-None.ensures.exchange) _ _ (sym c.has_failed.ensures ∙ c.if-has_failed.true) i.source_served

pub loop-reads-preserved-else-has_failed : goal.loop-reads-preserved-else-has_failed
loop-reads-preserved-else-has_failed g c =
    let i = c.loop-reads.invariant in
    record {
      running = λ units me opening k. rw c.consume.ensures (pdu_came (i.running units me opening k) i.serves i.few
          c.bytes.ensures c.in-Whole.ensures c.in-None.ensures.exchange);
      fresh = fresh_more c.loop-reads.phases.login _ _ _ _ i.fresh c.in-None.ensures.exchange.made;
      room = c.in-None.ensures.kept;
      serves = sym c.has_failed.ensures ∙ c.if-has_failed.false;
      few = c.in-None.ensures.few;
      source_served = i.source_served;
    }

pub returns-then-has_failed-2 : goal.returns-then-has_failed-2
returns-then-has_failed-2 g c units me opening k =
    let i = c.loop-reads.invariant in
    sink_failed (flushed (i.running units me opening k) _ _ _ c.flush.ensures.written) _ _
    (sym c.has_failed-in-Partial.ensures ∙ c.if-has_failed-2.true) i.source_served

pub returns-in-Ok-eq0 : goal.returns-in-Ok-eq0
returns-in-Ok-eq0 g c units me opening k =
    let i = c.loop-reads.invariant in
    input_ended (flushed (i.running units me opening k) _ _ _ c.flush.ensures.written) _ _ c.flush.ensures.all_written
    (sym c.has_failed-in-Partial.ensures ∙ c.if-has_failed-2.false) _ (rw c.bytes.ensures at c.in-Partial.ensures.0)
    c.in-Ok-eq0.ensures.ok c.in-Ok-eq0.field-0-test (c.in-Ok-eq0.ensures.failures ∙ i.source_served)

pub loop-reads-preserved : goal.loop-reads-preserved
loop-reads-preserved g c =
    let i = c.loop-reads.invariant in
    let same = c.read_more.ensures.same in
    record {
      running = λ units me opening k. rw same.0 (rw same.1 (more_came
          (flushed (i.running units me opening k) _ _ _ c.flush.ensures.written)
          c.in-Ok.ensures.ok (c.loop-reads.reads + 1) (omega (arith, c.in-Ok.field-0-test))));
      fresh = rw same.1 i.fresh;
      room = i.room;
      serves = rw same.0 (sym c.has_failed-in-Partial.ensures ∙ c.if-has_failed-2.false);
      few = rw same.0 (omega (arith, ap (λ (z : List ℕ). length z) c.flush.ensures.all_written));
      source_served = c.in-Ok.ensures.failures ∙ i.source_served;
    }

pub returns-in-Err : goal.returns-in-Err
returns-in-Err g c units me opening k =
    let i = c.loop-reads.invariant in
    input_failed (flushed (i.running units me opening k) _ _ _ c.flush.ensures.written) _ _ c.flush.ensures.all_written
    (sym c.has_failed-in-Partial.ensures ∙ c.if-has_failed-2.false) _ (rw c.bytes.ensures at c.in-Partial.ensures.0)
    c.in-Err.ensures.err.1 (rw i.source_served at c.in-Err.ensures.failures)

pub returns : goal.returns
returns g c units me opening k =
    let i = c.loop-reads.invariant in
    taken_all (i.running units me opening k) _ _ _ _ _ (omega (arith, c.loop-reads-test.false)) i.source_served c.finish-2.ensures
