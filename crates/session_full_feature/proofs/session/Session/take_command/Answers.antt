use Rattle.session_full_feature.proofs.Receiving.{begins}
use Rattle.session_full_feature.proofs.session.Session.take_command.Goals as goal

pub returns-in-Some-clause-on : goal.returns-in-Some-clause-on
returns-in-Some-clause-on c =
    begins _ _ _ c.args.command.now c.decode-asked.result c.data_needed-need.result c.args.bytes.now c.in-Some.r2t _
    (record { means = c.decode-asked.ensures.means; only = c.decode-asked.ensures.only })
    c.data_needed-need.ensures (c.has_to_collect.ensures.0 c.if-not-has_to_collect.false) c.accept.ensures
    c.in-Some.ensures c.send_r2t.ensures.sends
