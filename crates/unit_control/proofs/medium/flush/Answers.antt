use Rattle.unit_control.proofs.Works.{sync_worked}
use Rattle.unit_control.proofs.medium.flush.Goals as goal

pub returns-clause-worked : goal.returns-clause-worked
returns-clause-worked g c = λ lba blocks. sync_worked _ _ _ _ _ c.sync.ensures.ends c.sync.ensures.contents
