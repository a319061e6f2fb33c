use Rattle.std.proofs.Common.{arith}
use Rattle.unit_control.proofs.Places.{absent_more, is_place}
use Rattle.unit_control.proofs.sessions.place_of.Goals as goal

pub returns-then-attached-id : goal.returns-then-attached-id
returns-then-attached-id c =
    is_place c.args.sessions.now c.args.id c.loop-at.at c.index-sessions-at.result c.index-sessions-at.is
    (omega arith) c.if-attached-id.true c.loop-at.invariant

pub loop-at-preserved : goal.loop-at-preserved
loop-at-preserved c =
    absent_more c.args.sessions.now c.args.id c.loop-at.at c.index-sessions-at.result c.index-sessions-at.is
    (omega arith) c.if-attached-id.false c.loop-at.invariant
