use Rattle.access_states.specs.Change.{access_after}
use Rattle.access_states.proofs.Taken.{nothing_named}
use Rattle.access_states.proofs.laws.an_empty_list_changes_nothing.Goals as goal

pub returns-clause-nothing : goal.returns-clause-nothing
unfolding access_after
returns-clause-nothing c = λ cause map h. nothing_named cause map h

pub returns-clause-reserved : goal.returns-clause-reserved
unfolding access_after
returns-clause-reserved c = λ cause map a b e d h. nothing_named cause map h
