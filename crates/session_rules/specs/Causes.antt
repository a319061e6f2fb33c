-- The ends that have a cause which a PDU tells: that of a session in which a PDU is rejected, and that of a login that is refused.
use Rattle.std.specs.Prelude.{ℕ, ◌+◌, ◌*◌, List}
use Rattle.iscsi_pdu.specs.{Fields.opcode_of, Number.word_at}
use Rattle.login.specs.Status.{code_of}
use Rattle.login.specs.declared.status.LoginStatus.{LoginStatus}
use Rattle.session_rules.specs.declared.end.End.{End, TheVariants.Rejected, TheVariants.LoginRefused}

-- the Initiator Task Tag in a basic header segment (RFC 7143, 11.2.1.8)
abbrev pub task_tag_of : List ℕ → ℕ
task_tag_of bhs = word_at bhs 16

-- a PDU with this basic header segment is rejected for this reason (11.17.1)
abbrev pub end_by_reject : ℕ → List ℕ → End
end_by_reject reason bhs = Rejected reason (opcode_of bhs) (task_tag_of bhs)

-- a status as the one number by which the standard lists it: its class in the upper byte, its detail in the lower one (11.13.5)
abbrev pub status_of : ℕ → ℕ → ℕ
status_of class detail = 256 * class + detail

abbrev pub end_by_refusal : LoginStatus → End
end_by_refusal status = LoginRefused (status_of (code_of status).class (code_of status).detail)
