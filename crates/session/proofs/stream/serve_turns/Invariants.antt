use Rattle.std.proofs.Common.{◌≡◌, ◌+◌, ◌-◌, ◌*◌, ◌<◌, ◌≤◌, ℕ, None, false, vec_capacity, length}
use Rattle.session_rules.specs.declared.{text.TheConstants.LONGEST_TEXT, target_record.TargetRecord.TargetRecord, opening.Opening.Opening}
use Rattle.session_rules.specs.Ends.{most_bytes}
use Rattle.session_stream.specs.declared.outbox.TheConstants.{ENOUGH_TO_WRITE}
use Rattle.session.specs.declared.inbox.TheConstants.{INBOX_CAPACITY}
use Rattle.session.{specs.Stream.OpensWith, specs.Stream.IsFresh, proofs.Running.Running}
use Rattle.session.proofs.stream.serve_turns.Given as goal

abbrev pub invariant-loop-reads : goal.invariant-loop-reads
invariant-loop-reads g l = record {
  running : (units : ℕ) (me : TargetRecord) (opening : Opening) → OpensWith units me opening l.fn.phases
      → Running g.T.Target.leads units me opening (g.S.Source.left l.fn.source) (g.S.Source.left l.source)
      (g.K.Sink.held l.fn.sink) (g.K.Sink.held l.sink)
      (g.K.Sink.failures l.fn.sink) (g.K.Sink.failures l.sink) l.outbox l.fn.target l.target l.phases l.inbox l.reads None;
  fresh : IsFresh l.phases;
  room : LONGEST_TEXT ≤ vec_capacity l.room;
  serves : l.outbox.failed ≡ false;
  few : length l.outbox.waiting < ENOUGH_TO_WRITE;
  source_served : g.S.Source.failures l.source ≡ g.S.Source.failures l.fn.source;
}

abbrev pub decreases-loop-reads : goal.decreases-loop-reads
decreases-loop-reads g l = (most_bytes - l.reads) * (INBOX_CAPACITY + 1) + length l.inbox
