use Rattle.std.proofs.Common.{◌∙◌}
use Rattle.session_rules.specs.Tasks.{Collecting}
use Rattle.session_tasks.{specs.Slots.fed, proofs.Places.changed}
use Rattle.session_tasks.proofs.collecting.WaitingCommands.feed_at.Goals as goal

pub returns-clause-fed : goal.returns-clause-fed
returns-clause-fed c this s =
    changed _ _ _ _ _ (c.self.view_is ∙ s.whole) s.place (λ (k : Collecting). fed k c.args.bytes.now)
    _ _ c.feed.ensures.fed c.index_mut.ensures.value
