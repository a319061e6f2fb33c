-- How a command is answered in a turn (RFC 7143, 4.4).
use Rattle.std.specs.Prelude.{◌≡◌, if◌then◌else◌}
use Rattle.session_rules.specs.Words.{ℕ, List, [], length, Option, Some, None, Result, list_any, find, option_map, need_of, Command}
use Rattle.session_rules.specs.Words.{CdbFault, CommandHeader, Initiator, Target, NopOut, ScsiCommand, TaskManagementRequest, LoginRequest}
use Rattle.session_rules.specs.Words.{TextRequest, DataOut, LogoutRequest, TargetAnswer, Replied, Outside, Busy, Gone, Verdict, Accepted}
use Rattle.session_rules.specs.Words.{Full, Ignored, Gap, Refused}
use Rattle.session_rules.specs.{Setting.Setting, TaskManagement.IsManaged, Turn.Incoming, Turn.pdu, Turn.faulty, Turn.Out}
use Rattle.session_rules.specs.{Transfer.transfer_of, Tasks.Collecting, Tasks.is_response, Tasks.has_tag, Standing.Standing}
use Rattle.session_rules.specs.Asking.{Asking, began, lives, served, reset, over}

-- How a command is answered: by the target; or there was no buffer for its data; or another immediate command waits for
-- data, so that the task set is full.
pub data Outcome : Type 0 where
  by_target : TargetAnswer → Outcome
  no_buffer : Outcome
  set_full : Outcome

-- a command that is not called is answered in its own turn alone, and before any R2T: there was no buffer for its data
abbrev pub outcome_uncalled : Incoming → List Out → Option Outcome
outcome_uncalled (pdu b (Initiator (ScsiCommand p)) d) outs =
    if list_any (λ o. is_response o.header) outs then Some no_buffer else None
outcome_uncalled (pdu b (Initiator (DataOut x)) d) outs = None
outcome_uncalled (pdu b (Initiator (NopOut p)) d) outs = None
outcome_uncalled (pdu b (Initiator (TaskManagementRequest p)) d) outs = None
outcome_uncalled (pdu b (Initiator (LoginRequest p)) d) outs = None
outcome_uncalled (pdu b (Initiator (TextRequest p)) d) outs = None
outcome_uncalled (pdu b (Initiator (LogoutRequest p)) d) outs = None
outcome_uncalled (pdu b (Target h) d) outs = None
outcome_uncalled (faulty f b) outs = None

abbrev pub outcome_called : Incoming → Option Asking → List Out → Option Outcome
outcome_called came None outs = outcome_uncalled came outs
outcome_called came (Some (served unit asked bytes answer)) outs = Some (by_target answer)
outcome_called came (Some (reset unit answer)) outs = None
outcome_called came (Some (began port kind answer)) outs = None
outcome_called came (Some (lives tsih port answer)) outs = None
outcome_called came (Some over) outs = None

abbrev pub outcome_of : Verdict → Incoming → Option Asking → List Out → Option Outcome
outcome_of Accepted came call outs = outcome_called came call outs
outcome_of Full came call outs = Some set_full
outcome_of Ignored came call outs = None
outcome_of Gap came call outs = None
outcome_of (Refused reason) came call outs = None

-- the command that what came is of: a SCSI Command, or the one with its tag that waits for a Data-Out
abbrev pub command_at : Standing → Incoming → Option CommandHeader
command_at s (pdu b (Initiator (ScsiCommand p)) d) = Some p
command_at s (pdu b (Initiator (DataOut x)) d) = option_map (λ c. c.command) (find (has_tag x.task_tag) s.collecting)
command_at s (pdu b (Initiator (NopOut p)) d) = None
command_at s (pdu b (Initiator (TaskManagementRequest p)) d) = None
command_at s (pdu b (Initiator (LoginRequest p)) d) = None
command_at s (pdu b (Initiator (TextRequest p)) d) = None
command_at s (pdu b (Initiator (LogoutRequest p)) d) = None
command_at s (pdu b (Target h) d) = None
command_at s (faulty f b) = None

-- a command that is answered in a turn, how, and the PDUs that go out
pub record Answered : Type 0 where
  pub command : CommandHeader
  pub outcome : Outcome
  pub own : List Out

abbrev pub answered_by : Option Outcome → Option CommandHeader → List Out → Option Answered
answered_by (Some outcome) (Some p) own = Some (record { command = p; outcome = outcome; own = own })
answered_by (Some outcome) None own = None
answered_by None p own = None

abbrev pub answered_in : Standing → Incoming → Verdict → Option Asking → List Out → Option Answered
answered_in s came v call outs = answered_by (outcome_of v came call outs) (command_at s came) outs

-- the target serves nothing but a command, in its own turn or in that of a Data-Out
abbrev pub ServesCommands : Option Asking → Type 0
ServesCommands None = Unit {0}
ServesCommands (Some (served unit asked bytes answer)) = Unit {0}
ServesCommands (Some (reset unit answer)) = ⊥
ServesCommands (Some (began port kind answer)) = ⊥
ServesCommands (Some (lives tsih port answer)) = ⊥
ServesCommands (Some over) = ⊥

-- of the other requests a LOGICAL UNIT RESET of a unit that is there has its one Reset
abbrev pub IsAcceptedCall : Setting → Standing → Incoming → Option Asking → Type 0
IsAcceptedCall m s (pdu b (Initiator (ScsiCommand p)) d) call = ServesCommands call
IsAcceptedCall m s (pdu b (Initiator (DataOut x)) d) call = ServesCommands call
IsAcceptedCall m s (pdu b (Initiator (NopOut p)) d) call = call ≡ None
IsAcceptedCall m s (pdu b (Initiator (TaskManagementRequest p)) d) call =
    (response : Option ℕ) × (kept : List Collecting) × IsManaged m.units s.collecting p call response kept
IsAcceptedCall m s (pdu b (Initiator (TextRequest p)) d) call = call ≡ None
IsAcceptedCall m s (pdu b (Initiator (LogoutRequest p)) d) call = call ≡ None
IsAcceptedCall m s (pdu b (Initiator (LoginRequest p)) d) call = ⊥
IsAcceptedCall m s (pdu b (Target h) d) call = ⊥
IsAcceptedCall m s (faulty f b) call = ⊥

abbrev pub IsCalled : Setting → Standing → Verdict → Incoming → Option Asking → Type 0
IsCalled m s Accepted came call = IsAcceptedCall m s came call
IsCalled m s Full came call = call ≡ None
IsCalled m s Ignored came call = call ≡ None
IsCalled m s Gap came call = call ≡ None
IsCalled m s (Refused reason) came call = call ≡ None

-- the data of an answer
abbrev pub reply_data : TargetAnswer → List ℕ
reply_data (Replied a) = a.bytes
reply_data (Outside a) = a.bytes
reply_data Busy = []
reply_data Gone = []

abbrev pub outcome_data : Outcome → List ℕ
outcome_data (by_target answer) = reply_data answer
outcome_data no_buffer = []
outcome_data set_full = []

-- N, the length of the data that a command needs, for what its CDB asks, or returns
abbrev pub needed : Result Command CdbFault → Answered → ℕ
needed asked a = transfer_of a.command (need_of asked) (length (outcome_data a.outcome))
