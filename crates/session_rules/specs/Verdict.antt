-- What becomes of a PDU: the command window, and why a PDU is rejected (RFC 7143, 4.2.2.1, 7.3 and 11.17.1).
use Rattle.std.specs.Prelude.{◌≡◌, ◌⊎◌, ◌==◌, ◌&&◌, ◌||◌, if◌then◌else◌}
use Rattle.session_rules.specs.Words.{ℕ, nat_lt, Bool, true, false, List, length, MatchOption, list_any, find, CommandHeader, DataOutHeader}
use Rattle.session_rules.specs.Words.{Header, Initiator, Target, NopOut, ScsiCommand, TaskManagementRequest, LoginRequest, TextRequest}
use Rattle.session_rules.specs.Words.{DataOut, LogoutRequest, PduFault, Verdict, Accepted, Full, Ignored, Gap, Refused, Lengths}
use Rattle.iscsi_pdu.specs.declared.fault.PduFault.TheVariants.{UnknownOpcode, HasAhs, TooLong, BadFlags, BadReserved, NonZeroPad}
use Rattle.session_rules.specs.{Turn.Incoming, Turn.pdu, Turn.faulty, Transfer.expected_transfer, Setting.Setting, Setting.discovers}
use Rattle.session_rules.specs.{Text.is_text_refused, Window.ahead, Tasks.has_tag, Standing.Standing, Standing.window_size}
use Rattle.session_rules.specs.Collecting.{Continues, is_immediate}
use Rattle.session_rules.specs.Codes.{reserved_tag, protocol_error, command_not_supported, invalid_pdu_field}

-- how much data may come with a command: FirstBurstLength, and none where ImmediateData is No (13.11 and 13.14)
abbrev pub most_immediate : Lengths → ℕ
most_immediate l = if l.immediate_data then l.first_burst else 0

-- A task tag is one of a session's own among the tasks that are outstanding (RFC 7143, 4.2.2.1 and 11.2.1.8): that of a
-- command which waits for data is open.
abbrev pub is_open : Standing → ℕ → Bool
is_open s tag = list_any (has_tag tag) s.collecting

-- a SCSI Command with the reserved tag, or with one that is open, or with more immediate data than the length that it
-- expects or than may come with a command
abbrev pub is_refused : Lengths → Standing → CommandHeader → List ℕ → Bool
is_refused l s p d =
    (p.task_tag == reserved_tag)
    || is_open s p.task_tag
    || nat_lt (expected_transfer p) (length d)
    || nat_lt (most_immediate l) (length d)

-- What becomes of a PDU with this I bit and this CmdSN: outside the window it is ignored, and inside it, but not its
-- first, it leaves a gap; in its turn it is rejected, if there is a cause, or accepted.
abbrev pub has_its_turn : Standing → Bool → ℕ → Bool
has_its_turn s immediate cmd_sn = immediate || ((ahead cmd_sn s.exp_cmd_sn == 0) && nat_lt 0 (window_size s))

abbrev pub window_verdict : Standing → Bool → ℕ → Bool → Verdict
window_verdict s immediate cmd_sn refused =
    if has_its_turn s immediate cmd_sn
    then (if refused then Refused protocol_error else Accepted)
    else (if nat_lt (ahead cmd_sn s.exp_cmd_sn) (window_size s) then Gap else Ignored)

-- an immediate command that would be accepted finds the task set full, where another one waits for data
abbrev pub unless_full : Bool → Verdict → Verdict
unless_full true Accepted = Full
unless_full full v = v

-- what becomes of a SCSI Command, in a session of this kind
abbrev pub verdict_of : Setting → Standing → CommandHeader → List ℕ → Verdict
verdict_of m s p d =
    unless_full (p.immediate && list_any is_immediate s.collecting)
    (window_verdict s p.immediate p.numbers.cmd_sn (discovers m.kind || is_refused m.start.lengths s p d))

-- What becomes of a Data-Out: where no command with its tag waits for data it is passed over, else it is accepted where
-- it continues the R2T that is outstanding, and rejected where not.
abbrev pub IsJudgedData : Standing → DataOutHeader → List ℕ → Verdict → Type 0
IsJudgedData s x d v =
    MatchOption (find (has_tag x.task_tag) s.collecting) (v ≡ Ignored)
    (λ c. (Continues c x d × (v ≡ Accepted)) ⊎ ((Continues c x d → ⊥) × (v ≡ Refused protocol_error)))

-- what becomes of a PDU: a kind that is not served, and a PDU of a target, count as an unknown opcode
abbrev pub IsJudgedPdu : Setting → Standing → Header → List ℕ → Verdict → Type 0
IsJudgedPdu m s (Initiator (NopOut p)) d v = v ≡ window_verdict s p.immediate p.numbers.cmd_sn (is_open s p.task_tag)
IsJudgedPdu m s (Initiator (ScsiCommand p)) d v = v ≡ verdict_of m s p d
IsJudgedPdu m s (Initiator (TaskManagementRequest p)) d v =
    v ≡ window_verdict s p.immediate p.numbers.cmd_sn (discovers m.kind || is_open s p.task_tag)
IsJudgedPdu m s (Initiator (LoginRequest p)) d v = v ≡ Refused protocol_error
IsJudgedPdu m s (Initiator (TextRequest p)) d v =
    v ≡ window_verdict s p.immediate p.numbers.cmd_sn (is_text_refused m p d || is_open s p.task_tag)
IsJudgedPdu m s (Initiator (DataOut p)) d v = IsJudgedData s p d v
IsJudgedPdu m s (Initiator (LogoutRequest p)) d v = v ≡ window_verdict s p.immediate p.numbers.cmd_sn (is_open s p.task_tag)
IsJudgedPdu m s (Target p) d v = v ≡ Refused command_not_supported

abbrev pub reason_of : PduFault → ℕ
reason_of UnknownOpcode = command_not_supported
reason_of HasAhs = invalid_pdu_field
reason_of TooLong = invalid_pdu_field
reason_of BadFlags = invalid_pdu_field
reason_of BadReserved = invalid_pdu_field
reason_of NonZeroPad = invalid_pdu_field

abbrev pub IsJudged : Setting → Standing → Incoming → Verdict → Type 0
IsJudged m s (pdu b h d) v = IsJudgedPdu m s h d v
IsJudged m s (faulty f b) v = v ≡ Refused (reason_of f)
