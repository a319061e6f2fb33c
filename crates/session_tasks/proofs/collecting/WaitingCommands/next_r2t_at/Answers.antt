use Rattle.std.proofs.lemmas.Grind.{common_steps}
use Rattle.std.proofs.Common.{◌∙◌, ◌+◌, arith}
use Rattle.session_rules.specs.{Tasks.Collecting, Window.wrap}
use Rattle.session_tasks.{specs.Slots.waits, proofs.Places.changed}
use Rattle.session_tasks.proofs.collecting.WaitingCommands.next_r2t_at.Goals as goal

pub returns-clause-waits : goal.returns-clause-waits
returns-clause-waits c this s =
    changed _ _ _ _ _ (c.self.view_is ∙ s.whole) s.place
    (λ (k : Collecting). waits k.command k.bytes c.next_r2t.result (wrap (k.r2t_count + 1)))
    _ _ c.next_r2t.ensures.waits c.index_mut.ensures.value

pub returns-clause-r2t : goal.returns-clause-r2t
returns-clause-r2t c = grind (arith, common_steps) steps 4000000

pub returns-clause-fits : goal.returns-clause-fits
returns-clause-fits c = grind (arith, common_steps) steps 4000000
