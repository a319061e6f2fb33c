use Rattle.std.proofs.Common.{refl}
use Rattle.session_rules.specs.Words.{Initiator}
use Rattle.session_full_feature.{specs.Step.said, proofs.Unserved.refused}
use Rattle.session_rules.specs.declared.verdict.TheConstants.{PROTOCOL_ERROR}
use Rattle.session_full_feature.proofs.session.Session.on_initiator.Goals as goal

pub returns-in-LoginRequest-clause-on : goal.returns-in-LoginRequest-clause-on
returns-in-LoginRequest-clause-on c =
    refused _ _ (Initiator c.args.header.now) c.args.bytes.now (said c.reject.result) PROTOCOL_ERROR
    (rw c.in-LoginRequest.is refl) c.reject.ensures.on

pub returns-in-LogoutRequest-clause-on : goal.returns-in-LogoutRequest-clause-on
returns-in-LogoutRequest-clause-on c = rw c.in-LogoutRequest.is (c.on_logout.ensures.on c.args.bytes.now)

pub returns-in-TaskManagementRequest-clause-on : goal.returns-in-TaskManagementRequest-clause-on
returns-in-TaskManagementRequest-clause-on c = rw c.in-TaskManagementRequest.is (c.on_task_management.ensures.on c.args.bytes.now)
