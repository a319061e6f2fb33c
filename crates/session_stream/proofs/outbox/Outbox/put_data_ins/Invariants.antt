use Rattle.std.proofs.Common.{◌≤◌, ◌-◌, length}
use Rattle.session_stream.proofs.Segments.{QueuesTo}
use Rattle.session_stream.proofs.outbox.Outbox.put_data_ins.Given as goal

abbrev pub invariant-loop-offset : goal.invariant-loop-offset
invariant-loop-offset g l = record {
  numbered : l.data_sn ≤ l.offset;
  within : l.offset ≤ length l.data_ins.bytes.now;
  queued : QueuesTo l.data_ins.numbers l.data_ins.task_tag l.data_ins.lengths l.data_ins.bytes.now
      (g.K.Sink.held l.fn.sink) (g.K.Sink.held l.sink) (g.K.Sink.failures l.fn.sink)
      (g.K.Sink.failures l.sink) l.fn.self l.self l.data_sn l.offset;
}

abbrev pub decreases-loop-offset : goal.decreases-loop-offset
decreases-loop-offset g l = length l.data_ins.bytes.now - l.offset
