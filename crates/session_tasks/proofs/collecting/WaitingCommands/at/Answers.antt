use Rattle.session_tasks.proofs.Places.{stands_there}
use Rattle.session_tasks.proofs.collecting.WaitingCommands.at.Goals as goal

pub returns : goal.returns
returns c = stands_there _ _ c.args.at c.index.result.now c.self.view_is c.requires c.index.ensures
