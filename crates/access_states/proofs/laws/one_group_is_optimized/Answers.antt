use Rattle.access_states.proofs.Taken.{from_list}
use Rattle.access_states.proofs.laws.one_group_is_optimized.Goals as goal

pub returns-clause-kept : goal.returns-clause-kept
returns-clause-kept c = λ cause old new list h. (from_list cause old new list h).2
