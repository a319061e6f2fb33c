use Rattle.std.proofs.Common.{◌+◌, ap, refl, arith}
use Rattle.session_stream.proofs.Segments.{counts_on}
use Rattle.session_stream.proofs.data_in.count.Goals as goal

pub loop-offset-preserved : goal.loop-offset-preserved
loop-offset-preserved c = record {
  numbered = omega (arith, c.loop-offset.invariant.numbered, c.segment_at-pdu.ensures.some);
  within = c.segment_at-pdu.ensures.within;
  counted = counts_on c.args.data_ins.now.numbers c.args.data_ins.now.task_tag c.args.data_ins.now.lengths
      c.args.data_ins.now.bytes.now _
      c.loop-offset.data_sn c.loop-offset.offset _ _ (omega (arith, c.loop-offset-test.true)) refl
      (ap (λ n. c.loop-offset.offset + n) c.segment_at-pdu.ensures.size) c.loop-offset.invariant.counted;
}
