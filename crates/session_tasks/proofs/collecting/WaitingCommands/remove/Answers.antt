use Rattle.std.proofs.Common.{◌∙◌}
use Rattle.session_tasks.proofs.Places.{there, others}
use Rattle.session_tasks.proofs.collecting.WaitingCommands.remove.Goals as goal

pub returns-clause-removed : goal.returns-clause-removed
returns-clause-removed c this s = (
  c.remove.ensures.value ∙ there _ _ _ _ _ (c.self.view_is ∙ s.whole) s.place _,
  c.remove.ensures.items ∙ others _ _ _ _ _ (c.self.view_is ∙ s.whole) s.place,
)
