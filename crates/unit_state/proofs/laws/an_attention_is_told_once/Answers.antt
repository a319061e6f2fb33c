use Rattle.std.proofs.Common.{refl}
use Rattle.unit_control.specs.Sessions.{pending_of}
use Rattle.unit_state.proofs.Told.{pending_told, told_no_more}
use Rattle.unit_state.proofs.laws.an_attention_is_told_once.Goals as goal

pub returns-clause-reply : goal.returns-clause-reply
returns-clause-reply c = λ s session serial by asked bytes attention first stops. rw (first, stops) refl

pub returns-clause-blocks : goal.returns-clause-blocks
returns-clause-blocks c = λ s session serial by asked bytes attention first stops. rw (first, stops) refl

pub returns-clause-told : goal.returns-clause-told
returns-clause-told c = λ s session serial by asked bytes attention first stops apart.
    rw (first, stops) (rw (pending_told s.control.sessions session)
    (told_no_more (pending_of s.control.sessions session) attention apart first))
