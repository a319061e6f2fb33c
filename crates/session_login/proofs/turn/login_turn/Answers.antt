use Rattle.session_login.proofs.LoginTurns.{logged}
use Rattle.session_login.proofs.turn.login_turn.Goals as goal

pub returns-clause-turn : goal.returns-clause-turn
returns-clause-turn g c =
    logged g.T.Target.leads _ _ _ _ _ _ _ _ _ _ c.args.bhs.now _ _ c.take_numbers-numbers.ensures.numbers
    c.take_numbers-numbers.ensures.after
    _ c.args.pdu.now.header c.args.pdu.now.data.now c.on_pdu-outcome.result _ _ c.login_pdus-pdus.result
    (c.login_cmd_sn.ensures c.args.bhs.now c.args.pdu.now.data.now)
    (c.on_pdu-outcome.ensures.outcome c.args.bhs.now) (c.on_pdu-outcome.ensures.state c.args.bhs.now)
    c.deref.ensures.value c.on_pdu-outcome.ensures.text
    c.login_pdus-pdus.ensures.pdus c.fill.ensures.queued
