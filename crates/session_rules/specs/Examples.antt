-- Short transcripts that differ in one thing or another, of which one is legal: so each fact of a legal transcript refuses
-- something.
use Rattle.std.specs.Prelude.{◌∷◌}
use Rattle.session_rules.specs.Words.{ℕ, Bool, true, false, List, [], Option, Some, None, Result, good, Command, CdbFault, CommandNumbers}
use Rattle.session_rules.specs.Words.{Numbers, Header, InitiatorHeader, Initiator, NopOut, ScsiCommand, DataOut, LogoutRequest}
use Rattle.session_rules.specs.Words.{TargetHeader, NopIn, ScsiResponse, LoginResponse, DataIn, LogoutResponse, R2t, Reject, CommandHeader}
use Rattle.session_rules.specs.Words.{DataOutHeader, DataInHeader, ResponseHeader, R2tHeader, Normal, InvalidDuringLogin, LoginOutcome}
use Rattle.session_rules.specs.Words.{Replied, Verdict, Accepted}
use Rattle.session_rules.specs.{declared.login_outcome.LoginOutcome.TheVariants.Refused, Asking.Asking, Asking.served}
use Rattle.session_rules.specs.{Codes.no_transfer_tag, Lengths.default_lengths, LoginPhase.LoginTurn, Phases.Transcript, Setting.Setting}
use Rattle.session_rules.specs.Turn.{Incoming, pdu, Out, Turn}

-- a normal session with a target of one unit, in which CmdSN 7 is expected and StatSN 3 is next, and no length was negotiated
abbrev pub example : Setting
example = record {
  units = 1;
  kind = Normal;
  target_name = [];
  told = [];
  start = record { exp_cmd_sn = 7; stat_sn = 3; lengths = default_lengths };
}

abbrev pub unit_0 : List ℕ
unit_0 = 0 ∷ 0 ∷ 0 ∷ 0 ∷ 0 ∷ 0 ∷ 0 ∷ 0 ∷ []

abbrev pub next_command : CommandNumbers
next_command = record { cmd_sn = 7; exp_stat_sn = 3 }

-- behind the PDU with CmdSN 7
abbrev pub numbers_with : ℕ → ℕ → Numbers
numbers_with stat_sn max_cmd_sn = record { stat_sn = stat_sn; exp_cmd_sn = 8; max_cmd_sn = max_cmd_sn }

abbrev pub out : TargetHeader → List ℕ → Out
out header bytes = record { header = header; bytes = bytes }

-- a turn of a PDU that is accepted
abbrev pub accepted : InitiatorHeader → List ℕ → Option Asking → List Out → Turn
accepted h d call outs = record { came = pdu [] (Initiator h) d; verdict = Accepted; call = call; sent = outs }

-- a command that expects four bytes
abbrev pub command_header : Bool → Bool → List ℕ → CommandHeader
command_header reads writes cdb = record {
  immediate = false;
  read = reads;
  write = writes;
  attribute = 0;
  lun = unit_0;
  task_tag = 5;
  expected_length = 4;
  numbers = next_command;
  cdb = cdb;
}

-- ---- a NOP-Out with two bytes of data

abbrev pub ping_pdu : Incoming
ping_pdu = pdu [] (Initiator (NopOut (record {
  immediate = false;
  lun = unit_0;
  task_tag = 5;
  transfer_tag = no_transfer_tag;
  numbers = next_command;
}))) (1 ∷ 2 ∷ [])

abbrev pub ping : Verdict → Option Asking → TargetHeader → List ℕ → Turn
ping verdict call header d = record { came = ping_pdu; verdict = verdict; call = call; sent = out header d ∷ [] }

abbrev pub pong : Numbers → TargetHeader
pong n = NopIn (record { lun = unit_0; task_tag = 5; transfer_tag = no_transfer_tag; numbers = n })

-- ---- a read that expects four bytes, and is answered with three

abbrev pub read_header : List ℕ → CommandHeader
read_header cdb = command_header true false cdb

abbrev pub three_bytes : List ℕ
three_bytes = 1 ∷ 2 ∷ 3 ∷ []

abbrev pub read : List ℕ → Option ℕ → Result Command CdbFault → List ℕ → DataInHeader → List ℕ → ResponseHeader → List ℕ
    → Turn
read cdb unit asked bytes h d r e =
    accepted (ScsiCommand (read_header cdb)) [] (Some (served unit asked bytes (Replied (good three_bytes))))
    (out (DataIn h) d ∷ out (ScsiResponse r) e ∷ [])

abbrev pub the_data_in : DataInHeader
the_data_in = record {
  last = true;
  task_tag = 5;
  transfer_tag = no_transfer_tag;
  numbers = numbers_with 0 39;
  data_sn = 0;
  offset = 0;
}

abbrev pub the_response : ResponseHeader
the_response = record {
  overflow = false;
  underflow = true;
  response = 0;
  status = 0;
  task_tag = 5;
  numbers = numbers_with 3 39;
  exp_data_sn = 1;
  residual = 1;
}

-- the same with no SCSI Response behind its data
abbrev pub unanswered : List ℕ → Option ℕ → Result Command CdbFault → List ℕ → DataInHeader → List ℕ → Turn
unanswered cdb unit asked bytes h d =
    accepted (ScsiCommand (read_header cdb)) [] (Some (served unit asked bytes (Replied (good three_bytes))))
    (out (DataIn h) d ∷ [])

-- ---- a write of four bytes, none of which come with it

abbrev pub write_header : List ℕ → CommandHeader
write_header cdb = command_header false true cdb

abbrev pub write : List ℕ → R2tHeader → List ℕ → Turn
write cdb r e = accepted (ScsiCommand (write_header cdb)) [] None (out (R2t r) e ∷ [])

-- one numbered command waits: the window is smaller by one
abbrev pub the_r2t : R2tHeader
the_r2t = record {
  lun = unit_0;
  task_tag = 5;
  transfer_tag = 0;
  numbers = numbers_with 3 38;
  r2t_sn = 0;
  offset = 0;
  desired_length = 4;
}

-- its data comes, and is answered without a call
abbrev pub turned_away : DataOutHeader → List ℕ → ResponseHeader → Turn
turned_away x d r = accepted (DataOut x) d None (out (ScsiResponse r) [] ∷ [])

-- ---- a logout, which closes the session

abbrev pub leave : Turn
leave = accepted
    (LogoutRequest (record { immediate = false; reason = 0; task_tag = 5; cid = 0; numbers = next_command })) [] None
    (out (LogoutResponse (record {
      response = 0;
      task_tag = 5;
      numbers = numbers_with 3 39;
      time_to_wait = 2;
      time_to_retain = 0;
    })) [] ∷ [])

-- ---- a PDU that is rejected: one of a kind that only a target sends

abbrev pub wrong_pdu : TargetHeader → List ℕ → Incoming
wrong_pdu h bhs = pdu bhs (Header.Target h) []

abbrev pub reject : TargetHeader → List ℕ → Verdict → Option Asking → List Out → Turn
reject h bhs verdict call outs = record { came = wrong_pdu h bhs; verdict = verdict; call = call; sent = outs }

abbrev pub the_reject : List ℕ → List Out
the_reject bhs = out (Reject (record {
  reason = 5;
  numbers = record { stat_sn = 3; exp_cmd_sn = 7; max_cmd_sn = 38 };
})) bhs ∷ []

-- ---- a NOP-Out that comes before the login is over

abbrev pub ping_in_login : Option Asking → LoginOutcome → List Out → LoginTurn
ping_in_login call outcome outs = record { came = ping_pdu; call = call; outcome = outcome; sent = outs }

abbrev pub login_of : List LoginTurn → Transcript
login_of ls = record { logins = ls; turns = [] }

abbrev pub the_refusal : List Out
the_refusal = out (LoginResponse (record {
  transit = false;
  continues = false;
  current_stage = 0;
  next_stage = 0;
  isid = 0 ∷ 0 ∷ 0 ∷ 0 ∷ 0 ∷ 0 ∷ [];
  tsih = 0;
  task_tag = 5;
  numbers = record { stat_sn = 1; exp_cmd_sn = 0; max_cmd_sn = 31 };
  status_class = 0x02;
  status_detail = 0x0B;
})) [] ∷ []

abbrev pub turned_away_in_login : LoginTurn
turned_away_in_login = ping_in_login None (Refused InvalidDuringLogin) the_refusal
