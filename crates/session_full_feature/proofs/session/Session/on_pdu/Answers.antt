use Rattle.std.proofs.Common.{refl}
use Rattle.session_full_feature.{specs.Step.said, proofs.Unserved.refused}
use Rattle.session_rules.specs.declared.verdict.TheConstants.{COMMAND_NOT_SUPPORTED}
use Rattle.session_full_feature.proofs.session.Session.on_pdu.Goals as goal

pub returns-in-Target-clause-on : goal.returns-in-Target-clause-on
returns-in-Target-clause-on c =
    refused _ _ c.args.header.now c.args.bytes.now (said c.reject.result) COMMAND_NOT_SUPPORTED
    (rw c.in-Target.is refl) c.reject.ensures.on
