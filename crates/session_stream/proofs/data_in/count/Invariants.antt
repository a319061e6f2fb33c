use Rattle.std.proofs.Common.{◌≤◌, ◌-◌, length}
use Rattle.session_stream.{specs.Pdus.data_ins_of, proofs.Segments.CountsTo}
use Rattle.session_stream.proofs.data_in.count.Given as goal

abbrev pub invariant-loop-offset : goal.invariant-loop-offset
invariant-loop-offset l = record {
  numbered : l.data_sn ≤ l.offset;
  within : l.offset ≤ length l.data_ins.bytes.now;
  counted : CountsTo l.data_ins.numbers l.data_ins.task_tag l.data_ins.lengths l.data_ins.bytes.now
      (length (data_ins_of l.data_ins)) l.data_sn l.offset;
}

abbrev pub decreases-loop-offset : goal.decreases-loop-offset
decreases-loop-offset l = length l.data_ins.bytes.now - l.offset
