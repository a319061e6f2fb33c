-- The command window and the numbers of a session (RFC 7143, 4.2.2).
use Rattle.std.specs.Prelude.{◌+◌, ◌-◌, ◌%◌, if◌then◌else◌}
use Rattle.session_rules.specs.Words.{ℕ, Bool, false, not, List, count_by, Initiator, Target, NopOut, ScsiCommand, TaskManagementRequest}
use Rattle.session_rules.specs.Words.{LoginRequest, TextRequest, DataOut, LogoutRequest, TargetHeader, NopIn, ScsiResponse}
use Rattle.session_rules.specs.Words.{TaskManagementResponse, LoginResponse, TextResponse, DataIn, LogoutResponse, R2t, Reject, Numbers}
use Rattle.session_rules.specs.Words.{Verdict, Accepted, Full, Ignored, Gap, Refused}
use Rattle.session_rules.specs.Turn.{Incoming, pdu, faulty, Turn}

-- numbers count modulo 2^32 (RFC 1982)
abbrev pub wrap : ℕ → ℕ
wrap n = n % 4294967296

-- how far a CmdSN lies ahead of the one that is expected
abbrev pub ahead : ℕ → ℕ → ℕ
ahead cmd_sn exp_cmd_sn = wrap (cmd_sn + (4294967296 - exp_cmd_sn))

-- the numbers that a PDU goes out with
abbrev pub numbers_of : TargetHeader → Numbers
numbers_of (NopIn p) = p.numbers
numbers_of (ScsiResponse p) = p.numbers
numbers_of (TaskManagementResponse p) = p.numbers
numbers_of (LoginResponse p) = p.numbers
numbers_of (TextResponse p) = p.numbers
numbers_of (DataIn p) = p.numbers
numbers_of (LogoutResponse p) = p.numbers
numbers_of (R2t p) = p.numbers
numbers_of (Reject p) = p.numbers

-- the CmdSN that is expected behind a PDU with this I bit that was accepted
abbrev pub exp_cmd_sn_behind : Bool → ℕ → ℕ
exp_cmd_sn_behind immediate exp_cmd_sn = if immediate then exp_cmd_sn else wrap (exp_cmd_sn + 1)

-- a PDU that takes a CmdSN, if it is accepted: one of these kinds, without the I bit
abbrev pub is_numbered : Incoming → Bool
is_numbered (pdu b (Initiator (NopOut p)) d) = not p.immediate
is_numbered (pdu b (Initiator (ScsiCommand p)) d) = not p.immediate
is_numbered (pdu b (Initiator (TaskManagementRequest p)) d) = not p.immediate
is_numbered (pdu b (Initiator (TextRequest p)) d) = not p.immediate
is_numbered (pdu b (Initiator (LogoutRequest p)) d) = not p.immediate
is_numbered (pdu b (Initiator (LoginRequest p)) d) = false
is_numbered (pdu b (Initiator (DataOut p)) d) = false
is_numbered (pdu b (Target h) d) = false
is_numbered (faulty f b) = false

abbrev pub takes_number : Verdict → Incoming → Bool
takes_number Accepted came = is_numbered came
takes_number Full came = false
takes_number Ignored came = false
takes_number Gap came = false
takes_number (Refused reason) came = false

-- ExpCmdSN behind these turns: the first one, and the numbered PDUs that were accepted
abbrev pub exp_cmd_sn_after : ℕ → List Turn → ℕ
exp_cmd_sn_after first ts = wrap (first + count_by (λ t. takes_number t.verdict t.came) ts)
