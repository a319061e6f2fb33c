use Rattle.std.proofs.Common.{refl, ◌∙◌, ap}
use Rattle.session_rules.specs.Words.{answer_to, after, LoginFlags}
use Rattle.byteorder.specs.Endian.{big_number}
use Rattle.session_login.proofs.LoginTurns.{accepted, named, port_with}
use Rattle.session_login.proofs.login_phase.LoginPhase.negotiate.Goals as goal

pub returns-in-Accepted-clause-outcome : goal.returns-in-Accepted-clause-outcome
returns-in-Accepted-clause-outcome g c =
    rw (← c.self.view_is) (accepted g.T.Target.leads _ _ _ c.args.request.now _ _ _ _ _
    (c.in-Accepted.ensures.answer
    ∙ ap (λ (f : LoginFlags). answer_to c.self.inside.negotiation f c.args.text.now) c.flags_of.ensures)
    (c.in-Accepted.ensures.state
    ∙ ap (λ (f : LoginFlags). after c.self.inside.negotiation f c.args.text.now) c.flags_of.ensures)
    c.begin_session.ensures)

pub returns-in-NamesSession-clause-outcome : goal.returns-in-NamesSession-clause-outcome
returns-in-NamesSession-clause-outcome g c =
    rw (← c.self.view_is) (named g.T.Target.leads _ _ _ c.args.request.now _ _ _ _
    (c.in-NamesSession.ensures.answer
    ∙ ap (λ (f : LoginFlags). answer_to c.self.inside.negotiation f c.args.text.now) c.flags_of.ensures)
    (ap (port_with (big_number 6 c.args.request.now.isid)) (c.deref.ensures.value ∙ c.in-NamesSession.ensures.named refl))
    c.find_session.ensures)
