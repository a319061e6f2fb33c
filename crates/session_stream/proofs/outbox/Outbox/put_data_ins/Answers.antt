use Rattle.std.proofs.Common.{◌+◌, ap, refl, arith}
use Rattle.session_stream.{specs.Pdus.data_in_out, proofs.Segments.queues_none, proofs.Segments.queues_on, proofs.Segments.queues_all}
use Rattle.session_stream.proofs.outbox.Outbox.put_data_ins.Goals as goal

pub loop-offset-init : goal.loop-offset-init
loop-offset-init g c = record {
  numbered = omega arith;
  within = omega arith;
  queued = queues_none c.args.data_ins.now.numbers c.args.data_ins.now.task_tag c.args.data_ins.now.lengths
      c.args.data_ins.now.bytes.now _ _ _;
}

pub loop-offset-preserved : goal.loop-offset-preserved
loop-offset-preserved g c = record {
  numbered = omega (arith, c.loop-offset.invariant.numbered, c.segment_at-pdu.ensures.some);
  within = c.segment_at-pdu.ensures.within;
  queued = queues_on c.args.data_ins.now.numbers c.args.data_ins.now.task_tag c.args.data_ins.now.lengths
      c.args.data_ins.now.bytes.now _ _ _ _ _ _ _ _ _
      c.loop-offset.data_sn c.loop-offset.offset _ _ (data_in_out c.segment_at-pdu.result)
      (omega (arith, c.loop-offset-test.true)) refl
      (ap (λ n. c.loop-offset.offset + n) c.segment_at-pdu.ensures.size) c.segment_at-pdu.ensures.pdu
      c.loop-offset.invariant.queued c.put.ensures;
}

pub returns : goal.returns
returns g c = queues_all c.args.data_ins.now.numbers c.args.data_ins.now.task_tag c.args.data_ins.now.lengths
    c.args.data_ins.now.bytes.now _ _ _ _ _ _ c.loop-offset.data_sn c.loop-offset.offset
    (omega (arith, c.loop-offset-test.false)) c.loop-offset.invariant.queued
