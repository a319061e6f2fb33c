use Rattle.std.proofs.Common.{◌≡◌, ◌≢◌, Some, subst}
use Rattle.access_states.specs.AccessMap.{AccessMapValue, group_access}
use Rattle.access_states.proofs.Taken.{altered_by, from_list, kept_as}
use Rattle.access_states.proofs.laws.a_status_code_tells_the_cause.Goals as goal

pub returns-clause-altered : goal.returns-clause-altered
returns-clause-altered c = λ cause old new list g h.
    let f = from_list cause old new list h in
    subst (λ (m : AccessMapValue). (group_access m g).state ≢ (group_access old g).state
    → (group_access m g).altered ≡ Some cause) f.1
    (altered_by cause old f.0 g)

pub returns-clause-stays : goal.returns-clause-stays
returns-clause-stays c = λ cause old new list g h.
    let f = from_list cause old new list h in
    subst (λ (m : AccessMapValue). (group_access m g).state ≡ (group_access old g).state
    → group_access m g ≡ group_access old g) f.1
    (kept_as cause old f.0 g)
