use Rattle.std.proofs.Common.{rules}
use Rattle.session_tasks.proofs.Places.{stands_there, found_there, none_of_all}
use Rattle.session_tasks.proofs.collecting.WaitingCommands.position.Goals as goal

pub returns-then-index-tag : goal.returns-then-index-tag
returns-then-index-tag c = (
  c.index.result.now,
  stands_there _ _ c.loop-i.i c.index.result.now c.self.view_is (search rules) c.index.ensures,
  found_there _ _ _ c.loop-i.i c.index.result.now c.self.view_is
      (search rules) c.index.ensures c.loop-i.invariant (search rules),
)

pub returns : goal.returns
returns c = none_of_all c.args.tag c.args.self.now c.loop-i.i (search rules) c.loop-i.invariant
