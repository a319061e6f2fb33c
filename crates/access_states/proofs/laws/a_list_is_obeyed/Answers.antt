use Rattle.std.proofs.Common.{◌≡◌, subst}
use Rattle.access_states.specs.AccessMap.{AccessMapValue, group_access}
use Rattle.access_states.proofs.Taken.{leads, obeyed, unnamed_of}
use Rattle.access_states.proofs.laws.a_list_is_obeyed.Goals as goal

pub returns-clause-named : goal.returns-clause-named
returns-clause-named c = λ cause old new list named g state l h.
    subst (λ (m : AccessMapValue). (group_access m g).state ≡ state) (leads cause old new list named l)
    (obeyed cause old named g state h)

pub returns-clause-stays : goal.returns-clause-stays
returns-clause-stays c = λ cause old new list named g was l h. (unnamed_of cause old new list named g was l h).0

pub returns-clause-gives_way : goal.returns-clause-gives_way
returns-clause-gives_way c = λ cause old new list named g was l h. (unnamed_of cause old new list named g was l h).1
