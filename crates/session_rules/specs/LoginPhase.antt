-- The login phase of a session (RFC 7143, 6.3, 11.12 and 11.13): a list of turns, each a PDU that came, or a fault, with the
-- one PDU that answers it.
use Rattle.std.specs.Prelude.{◌≡◌, ◌+◌, if◌then◌else◌, ◌∷◌, ◌++◌}
use Rattle.session_rules.specs.Words.{ℕ, true, false, Bool, List, [], length, replicate, Option, Some, None, option_or, option_map}
use Rattle.session_rules.specs.Words.{unwrap_or, Port, Initiator, Target, InitiatorHeader, NopOut, ScsiCommand, TaskManagementRequest}
use Rattle.session_rules.specs.Words.{LoginRequest, TextRequest, DataOut, LogoutRequest, TargetHeader, LoginResponse, Reject, LoginHeader}
use Rattle.session_rules.specs.Words.{Numbers, pairs, Progress, beginning, Ending, Finished, Stopped, answer_to, after, kind_in, LoginFlags}
use Rattle.session_rules.specs.Words.{InvalidDuringLogin, End, Lengths, LoginOutcome, Start, BeginAnswer}
use Rattle.byteorder.specs.Endian.{big_number}
use Rattle.login.specs.{Status.code_of, Request.Answered, Request.initiator_of, Parameters.parameters_of}
use Rattle.login.specs.declared.parameters.Parameters.{Parameters}
use Rattle.login.specs.declared.status.LoginStatus.{LoginStatus}
use Rattle.login.specs.declared.status.LoginStatus.TheVariants.{TooManyConnections, SessionDoesNotExist, OutOfResources}
use Rattle.session_rules.specs.{Causes.end_by_reject, Causes.end_by_refusal, Codes.command_not_supported, Asking.Asking, Asking.began, Asking.lives, Handle.HasHandle, Window.wrap}
use Rattle.session_rules.specs.{Standing.numbers_for, Verdict.reason_of, Turn.Incoming, Turn.pdu, Turn.faulty, Turn.Out}
use Rattle.session_rules.specs.declared.login_outcome.LoginOutcome.TheVariants.{GoesOn, Begun, Refused, Rejected}
use Rattle.login.specs.declared.status.LoginRefusal.TheVariants as refusals
use Rattle.session_rules.specs.declared.target.BeginAnswer.TheVariants as begin_answers

-- what came, what the target was asked, what it came to, and what went out
pub record LoginTurn : Type 0 where
  pub came : Incoming
  pub call : Option Asking
  pub outcome : LoginOutcome
  pub sent : List Out

-- ---- what stands behind some turns

-- how far the negotiation has come; the CmdSN of the first Login Request, if one came; and the next StatSN
pub record LoginStanding : Type 0 where
  pub progress : Progress
  pub first : Option ℕ
  pub stat_sn : ℕ

-- what the negotiation looks at in a header
abbrev pub flags_of : LoginHeader → LoginFlags
flags_of p = record {
  transit = p.transit;
  continues = p.continues;
  current_stage = p.current_stage;
  next_stage = p.next_stage;
  version_min = p.version_min;
  tsih = p.tsih;
}

-- a Login Request with its data: nothing else carries a login on
abbrev pub login_with : Incoming → Option (LoginHeader × List ℕ)
login_with (pdu b (Initiator (LoginRequest p)) d) = Some (p, d)
login_with came = None

abbrev pub progress_after : Progress → Incoming → Progress
progress_after s came = unwrap_or (option_map (λ x. after s (flags_of x.0) x.1) (login_with came)) s

abbrev pub progress_behind : Progress → List LoginTurn → Progress
progress_behind s [] = s
progress_behind s (l ∷ ls) = progress_behind (progress_after s l.came) ls

abbrev pub cmd_sn_in : Incoming → Option ℕ
cmd_sn_in came = option_map (λ x. x.0.numbers.cmd_sn) (login_with came)

abbrev pub first_cmd_sn : List LoginTurn → Option ℕ
first_cmd_sn [] = None
first_cmd_sn (l ∷ ls) = option_or (cmd_sn_in l.came) (first_cmd_sn ls)

-- each turn of a login uses up a StatSN, from 1 on
abbrev pub login_standing : List ℕ → ℕ → List LoginTurn → LoginStanding
login_standing target tag ls = record {
  progress = progress_behind (beginning target tag) ls;
  first = first_cmd_sn ls;
  stat_sn = wrap (1 + length ls);
}

abbrev pub login_after : LoginStanding → Incoming → LoginStanding
login_after v came = record {
  progress = progress_after v.progress came;
  first = option_or v.first (cmd_sn_in came);
  stat_sn = wrap (v.stat_sn + 1);
}

-- the numbers of the PDU that answers this: ExpCmdSN is the CmdSN of the first Login Request (4.2.2.1), and 0 where none
-- came
abbrev pub login_numbers : LoginStanding → Incoming → Numbers
login_numbers v came = numbers_for v.stat_sn (unwrap_or (option_or v.first (cmd_sn_in came)) 0) 0

-- ---- what a turn comes to

-- the initiator port that a request is of: the InitiatorName that its login says, and its ISID (4.4.3)
abbrev pub port_of : LoginHeader → List ℕ → Port
port_of p said = record { name = initiator_of (pairs said); isid = big_number 6 p.isid }

-- a session begins, or there is no room for it
abbrev pub outcome_of_begin : BeginAnswer → LoginOutcome
outcome_of_begin (begin_answers.Begun tsih) = Begun tsih
outcome_of_begin begin_answers.Refused = Refused OutOfResources

-- a request that names a session asks for one connection more, if that session lives
abbrev pub outcome_of_lives : Bool → LoginOutcome
outcome_of_lives true = Refused TooManyConnections
outcome_of_lives false = Refused SessionDoesNotExist

-- what a request comes to: where all checks pass the target is asked to begin the session, of the port and the kind that its
-- login says; where the first check that fails is that of the TSIH, whether that session lives
abbrev pub IsNegotiated : Progress → LoginHeader → List ℕ → Ending → Option Asking → LoginOutcome → Type 0
IsNegotiated s p d (Answered text) call o = (call ≡ None) × (o ≡ GoesOn)
IsNegotiated s p d (Finished text) call o =
    (answer : BeginAnswer)
    × (call ≡ Some (began (port_of p (after s (flags_of p) d).said) (kind_in (after s (flags_of p) d).kind) answer))
    × HasHandle answer × (o ≡ outcome_of_begin answer)
IsNegotiated s p d (Stopped (refusals.Refused status)) call o = (call ≡ None) × (o ≡ Refused status)
IsNegotiated s p d (Stopped refusals.NamesSession) call o =
    (answer : Bool) × (call ≡ Some (lives p.tsih (port_of p (s.run_text ++ d)) answer)) × (o ≡ outcome_of_lives answer)

-- what comes in a login: another PDU of an initiator is refused; one of a target, and a fault, has a Reject
abbrev pub IsTurnedAway : Option Asking → LoginOutcome → Type 0
IsTurnedAway call o = (call ≡ None) × (o ≡ Refused InvalidDuringLogin)

abbrev pub HasOutcome : Progress → Incoming → Option Asking → LoginOutcome → Type 0
HasOutcome s (pdu b (Initiator (LoginRequest p)) d) call o = IsNegotiated s p d (answer_to s (flags_of p) d) call o
HasOutcome s (pdu b (Initiator (NopOut p)) d) call o = IsTurnedAway call o
HasOutcome s (pdu b (Initiator (ScsiCommand p)) d) call o = IsTurnedAway call o
HasOutcome s (pdu b (Initiator (TaskManagementRequest p)) d) call o = IsTurnedAway call o
HasOutcome s (pdu b (Initiator (TextRequest p)) d) call o = IsTurnedAway call o
HasOutcome s (pdu b (Initiator (DataOut p)) d) call o = IsTurnedAway call o
HasOutcome s (pdu b (Initiator (LogoutRequest p)) d) call o = IsTurnedAway call o
HasOutcome s (pdu b (Target h) d) call o = (call ≡ None) × (o ≡ Rejected command_not_supported)
HasOutcome s (faulty f b) call o = (call ≡ None) × (o ≡ Rejected (reason_of f))

-- ---- what goes out

abbrev pub ending_text : Ending → List ℕ
ending_text (Answered text) = text
ending_text (Finished text) = text
ending_text (Stopped refusal) = []

-- the response to a request that passed: T, CSG and NSG as they were asked for, and the TSIH in the last alone
abbrev pub passed_header : Numbers → LoginHeader → ℕ → TargetHeader
passed_header n p tsih = LoginResponse (record {
  transit = p.transit;
  continues = false;
  current_stage = p.current_stage;
  next_stage = if p.transit then p.next_stage else 0;
  isid = p.isid;
  tsih = tsih;
  task_tag = p.task_tag;
  numbers = n;
  status_class = 0;
  status_detail = 0;
})

-- a refusal, with these fields; it has neither T nor C nor text
abbrev pub refused_header : Numbers → ℕ → ℕ → List ℕ → ℕ → LoginStatus → TargetHeader
refused_header n task_tag stage isid tsih status = LoginResponse (record {
  transit = false;
  continues = false;
  current_stage = stage;
  next_stage = 0;
  isid = isid;
  tsih = tsih;
  task_tag = task_tag;
  numbers = n;
  status_class = (code_of status).class;
  status_detail = (code_of status).detail;
})

abbrev pub bare_header : Numbers → ℕ → LoginStatus → TargetHeader
bare_header n task_tag status = refused_header n task_tag 0 (replicate 6 0) 0 status

-- a refusal of a request has its stage, its ISID and its TSIH; that of another PDU has none of them
abbrev pub refusal_of : Numbers → InitiatorHeader → LoginStatus → TargetHeader
refusal_of n (LoginRequest p) status = refused_header n p.task_tag p.current_stage p.isid p.tsih status
refusal_of n (NopOut p) status = bare_header n p.task_tag status
refusal_of n (ScsiCommand p) status = bare_header n p.task_tag status
refusal_of n (TaskManagementRequest p) status = bare_header n p.task_tag status
refusal_of n (TextRequest p) status = bare_header n p.task_tag status
refusal_of n (DataOut p) status = bare_header n p.task_tag status
refusal_of n (LogoutRequest p) status = bare_header n p.task_tag status

abbrev pub out : TargetHeader → List ℕ → List Out
out header bytes = record { header = header; bytes = bytes } ∷ []

-- the one PDU for what came, by what it came to; a Reject has the basic header segment of what is rejected. What comes to
-- nothing of the kind, as no turn does, has none.
abbrev pub login_outs : Numbers → Progress → Incoming → LoginOutcome → List Out
login_outs n s (pdu b (Initiator (LoginRequest p)) d) GoesOn =
    out (passed_header n p 0) (ending_text (answer_to s (flags_of p) d))
login_outs n s (pdu b (Initiator (LoginRequest p)) d) (Begun tsih) =
    out (passed_header n p tsih) (ending_text (answer_to s (flags_of p) d))
login_outs n s (pdu b (Initiator h) d) (Refused status) = out (refusal_of n h status) []
login_outs n s (pdu b h d) (Rejected reason) = out (Reject (record { reason = reason; numbers = n })) b
login_outs n s (faulty f b) (Rejected reason) = out (Reject (record { reason = reason; numbers = n })) b
login_outs n s came o = []

-- a turn of a login, where this stands behind the turns before it
pub record IsLoginTurn (v : LoginStanding) (l : LoginTurn) : Type 0 where
  pub comes_to : HasOutcome v.progress l.came l.call l.outcome
  pub answered : l.sent ≡ login_outs (login_numbers v l.came) v.progress l.came l.outcome

-- what is refused or rejected ends the session; what came has this basic header segment
abbrev pub login_end : List ℕ → LoginOutcome → Option End
login_end bhs GoesOn = None
login_end bhs (Begun tsih) = None
login_end bhs (Refused status) = Some (end_by_refusal status)
login_end bhs (Rejected reason) = Some (end_by_reject reason bhs)

abbrev pub begins : LoginOutcome → Bool
begins GoesOn = false
begins (Begun tsih) = true
begins (Refused status) = false
begins (Rejected reason) = false

-- ---- what full feature phase begins with

-- the lengths that were negotiated
pub record AreInForce (p : Parameters) (l : Lengths) : Type 0 where
  pub data_segment : l.data_segment ≡ p.max_recv_data_segment_length
  pub burst : l.burst ≡ p.max_burst_length
  pub first_burst : l.first_burst ≡ p.first_burst_length
  pub immediate_data : l.immediate_data ≡ p.immediate_data

-- its first command has the CmdSN of the first Login Request, which took none; the StatSNs count on; the keys of the login
-- are in force
pub record IsStart (v : LoginStanding) (start : Start) : Type 0 where
  pub exp_cmd_sn : start.exp_cmd_sn ≡ unwrap_or v.first 0
  pub stat_sn : start.stat_sn ≡ v.stat_sn
  pub lengths : AreInForce (parameters_of (pairs v.progress.said)) start.lengths
