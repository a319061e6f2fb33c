use Rattle.once_target.proofs.Stories.{is_once}
use Rattle.once_target.proofs.once.once.Goals as goal

pub returns-clause-served : goal.returns-clause-served
returns-clause-served g c =
    is_once c.args.me.now _ _ _ _ c.args.blocks c.close-device.result c.in_ok-target.target c.serve_stream.new.target
    c.in_ok-end.end c.in_ok-target.ensures (rw c.defaults.ensures at c.in_ok-end.ensures.transcribed)
    c.close-device.ensures.closed c.close-device.ensures.restart
