use Rattle.std.proofs.Common.{refl}
use Rattle.unit_state.proofs.laws.a_group_serves_what_its_state_lets.Goals as goal

pub returns-clause-reply : goal.returns-clause-reply
returns-clause-reply c = λ s session serial by asked bytes op sense out. rw
    (out.judged.nothing_first, out.judged.kind, out.not_served) refl

pub returns-clause-blocks : goal.returns-clause-blocks
returns-clause-blocks c =
    λ s session serial by asked bytes op sense out. rw (out.judged.nothing_first, out.judged.kind, out.not_served) refl

pub returns-clause-control : goal.returns-clause-control
returns-clause-control c =
    λ s session serial by asked bytes op sense out. rw (out.judged.nothing_first, out.judged.kind, out.not_served) refl
