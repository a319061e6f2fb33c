use Rattle.session_stream.proofs.Queues.{wrote, failed_at}
use Rattle.session_stream.proofs.outbox.write_out.Goals as goal

pub returns-in-Ok : goal.returns-in-Ok
returns-in-Ok g c = λ first begun least all k. wrote first _ begun _ c.args.bytes.now least all c.args.failed _ _
    c.if-failed.false k c.in-Ok.ensures.ok c.in-Ok.ensures.failures

pub returns-in-Err : goal.returns-in-Err
returns-in-Err g c = λ first begun least all k. failed_at first _ begun _ c.args.bytes.now least all c.args.failed
    _ _ c.if-failed.false k c.in-Err.ensures.err c.in-Err.ensures.failures
