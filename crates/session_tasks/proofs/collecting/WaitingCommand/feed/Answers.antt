use Rattle.std.proofs.Common.{subst}
use Rattle.session_rules.specs.Tasks.{Collecting}
use Rattle.session_tasks.specs.Slots.{IsAskedBy}
use Rattle.session_tasks.proofs.collecting.WaitingCommand.feed.Goals as goal

pub returns-clause-asked : goal.returns-clause-asked
returns-clause-asked c = (
  c.self.inside.asked,
  subst (λ (k : Collecting). IsAskedBy k.command c.self.inside.asked) c.self.view_is c.self.invariant.asked_by,
)
