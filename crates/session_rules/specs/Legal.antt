-- Which turns of full feature phase are legal (RFC 7143, sections 4 and 7). They are a list; each fact is judged
-- of the turn at each place, with the turns before it, so what holds of a transcript holds of each beginning.
use Rattle.std.specs.Prelude.{◌≡◌, ◌+◌, ◌<◌, ◌≤◌, if◌then◌else◌, ◌∷◌, ◌++◌}
use Rattle.session_rules.specs.Words.{ℕ, List, [], length, Option, Some, None, Result, IfSome, MatchOption, slice_get, filter_map}
use Rattle.session_rules.specs.Words.{AllByRecursion, Means, Command, CdbFault, Sense, max_data_segment_length, Initiator, Target, NopOut}
use Rattle.session_rules.specs.Words.{ScsiCommand, TaskManagementRequest, LoginRequest, TextRequest, DataOut, LogoutRequest, TargetHeader}
use Rattle.session_rules.specs.Words.{NopIn, ScsiResponse, TaskManagementResponse, LoginResponse, TextResponse, DataIn, LogoutResponse, R2t}
use Rattle.session_rules.specs.Words.{Reject, R2tHeader, Numbers, End, Reinstated, LoggedOut, Lengths, TargetAnswer}
use Rattle.session_rules.specs.Words.{Bool, ResetAnswer, Verdict, Accepted, Full, Ignored, Gap, Refused}
use Rattle.session_rules.specs.{Setting.Setting, Window.wrap, Window.numbers_of, Tasks.tasks, Tasks.r2ts_of, Collecting.IsRightTask}
use Rattle.session_rules.specs.Tasks.{finds_gone, is_gone, is_gone_by_reset}
use Rattle.session_rules.specs.{Standing.Standing, Standing.standing, Standing.last_in_window, Verdict.IsJudged}
use Rattle.session_rules.specs.{Transfer.expected_transfer, Transfer.sent_data, DataIn.data_ins, DataIn.Tiles, Nop.echo, Text.text_answer}
use Rattle.session_rules.specs.{Logout.closes, Requests.IsRequestAnswered, Asking.Asking}
use Rattle.session_rules.specs.{Turn.Incoming, Turn.pdu, Turn.faulty, Turn.Out, Turn.Turn, Turn.sent}
use Rattle.session_rules.specs.Answered.{Answered, answered_in, IsCalled, outcome_data, needed}
use Rattle.session_rules.specs.Response.{responses, sense_part, IsAnsweredAs, IsResidual, IsToldAs}
use Rattle.session_rules.specs.Causes.{end_by_reject}
use Rattle.session_rules.specs.declared.end.End.TheVariants as ends

-- the fact holds at each place of a list, of what stands before it and there
abbrev pub AtEachOf : {A : Type 0} → (List A → A → Type 0) → List A → Type 0
AtEachOf {A} P ts = (before : List A) (t : A) (behind : List A) → ts ≡ before ++ (t ∷ behind) → P before t

-- the fact holds at each place of the transcript
abbrev pub AtEach : (List Turn → Turn → Type 0) → List Turn → Type 0
AtEach P ts = AtEachOf P ts

-- the StatSN that a PDU uses up (4.2.2.2): that of a response or of a Reject
abbrev pub status_number : TargetHeader → Option ℕ
status_number (NopIn p) = Some p.numbers.stat_sn
status_number (ScsiResponse p) = Some p.numbers.stat_sn
status_number (TaskManagementResponse p) = Some p.numbers.stat_sn
status_number (LoginResponse p) = Some p.numbers.stat_sn
status_number (TextResponse p) = Some p.numbers.stat_sn
status_number (LogoutResponse p) = Some p.numbers.stat_sn
status_number (Reject p) = Some p.numbers.stat_sn
status_number (DataIn p) = None
status_number (R2t p) = None

abbrev pub status_numbers : List Out → List ℕ
status_numbers outs = filter_map (λ o. status_number o.header) outs

-- ExpCmdSN and MaxCmdSN of a PDU that goes out
pub record IsWindow (s : Standing) (n : Numbers) : Type 0 where
  pub expects : n.exp_cmd_sn ≡ s.exp_cmd_sn
  pub reaches : n.max_cmd_sn ≡ last_in_window s

abbrev pub HaveWindow : Standing → List Out → Type 0
HaveWindow s outs = AllByRecursion (λ o. IsWindow s (numbers_of o.header)) outs

-- an R2T has the next transfer tag, and tells the next StatSN, which it does not use up
pub record IsNextR2t (s : Standing) (stat_sn : ℕ) (r : R2tHeader) : Type 0 where
  pub transfer : r.transfer_tag ≡ s.transfer_tag
  pub status : r.numbers.stat_sn ≡ stat_sn

abbrev pub HaveNextR2t : Standing → ℕ → List Out → Type 0
HaveNextR2t s stat_sn outs = AllByRecursion (IsNextR2t s stat_sn) (r2ts_of outs)

-- what may go out for a command: its R2Ts, its Data-In and its SCSI Response, and no other kind
abbrev pub IsOfCommand : TargetHeader → Type 0
IsOfCommand (ScsiResponse p) = Unit {0}
IsOfCommand (DataIn p) = Unit {0}
IsOfCommand (R2t p) = Unit {0}
IsOfCommand (NopIn p) = ⊥
IsOfCommand (TaskManagementResponse p) = ⊥
IsOfCommand (LoginResponse p) = ⊥
IsOfCommand (TextResponse p) = ⊥
IsOfCommand (LogoutResponse p) = ⊥
IsOfCommand (Reject p) = ⊥

-- a PDU that is rejected has a Reject with its basic header segment, and nothing else; one that is ignored or out of
-- order has nothing
abbrev pub bhs_of : Incoming → List ℕ
bhs_of (pdu bhs h d) = bhs
bhs_of (faulty f bhs) = bhs

-- for a command, and for its data, that are accepted go out PDUs of a command; `requests` says what goes out for the others
abbrev pub IsSentForAccepted : Incoming → List Out → Type 0
IsSentForAccepted (pdu b (Initiator (NopOut p)) d) outs = Unit {0}
IsSentForAccepted (pdu b (Initiator (ScsiCommand p)) d) outs = AllByRecursion (λ o. IsOfCommand o.header) outs
IsSentForAccepted (pdu b (Initiator (TaskManagementRequest p)) d) outs = Unit {0}
IsSentForAccepted (pdu b (Initiator (LoginRequest p)) d) outs = ⊥
IsSentForAccepted (pdu b (Initiator (TextRequest p)) d) outs = Unit {0}
IsSentForAccepted (pdu b (Initiator (DataOut x)) d) outs = AllByRecursion (λ o. IsOfCommand o.header) outs
IsSentForAccepted (pdu b (Initiator (LogoutRequest p)) d) outs = Unit {0}
IsSentForAccepted (pdu b (Target h) d) outs = ⊥
IsSentForAccepted (faulty f b) outs = ⊥

abbrev pub IsSentFor : Verdict → Incoming → List Out → Type 0
IsSentFor Accepted came outs = IsSentForAccepted came outs
IsSentFor Full came outs = AllByRecursion (λ o. IsOfCommand o.header) outs × (r2ts_of outs ≡ [])
IsSentFor Ignored came outs = outs ≡ []
IsSentFor Gap came outs = outs ≡ []
IsSentFor (Refused reason) came outs =
    (n : Numbers)
    × (outs ≡ record { header = Reject (record { reason = reason; numbers = n }); bytes = bhs_of came } ∷ [])

-- The data that a PDU of each kind carries. An R2T, and the response to a Logout or to task management, have none; a NOP-In
-- has what came with its NOP-Out, a Text Response the answer to the text of its request, a SCSI Response its sense or none,
-- a Reject the header segment of what is rejected; a Data-In has some of what the target answered, by `tiled`. No Login
-- Response goes out any more.
abbrev pub segment_of : Incoming → List ℕ
segment_of (pdu bhs h d) = d
segment_of (faulty f bhs) = []

abbrev pub HasItsData : Setting → Incoming → TargetHeader → List ℕ → Type 0
HasItsData m came (NopIn p) d = d ≡ echo m.start.lengths (segment_of came)
HasItsData m came (ScsiResponse p) d = (sense : Option Sense) × (d ≡ sense_part sense)
HasItsData m came (TaskManagementResponse p) d = d ≡ []
HasItsData m came (LoginResponse p) d = ⊥
HasItsData m came (TextResponse p) d = d ≡ text_answer m (segment_of came)
HasItsData m came (DataIn p) d = (0 < length d) × (length d ≤ max_data_segment_length)
HasItsData m came (LogoutResponse p) d = d ≡ []
HasItsData m came (R2t p) d = d ≡ []
HasItsData m came (Reject p) d = d ≡ bhs_of came

abbrev pub HaveTheirData : Setting → Incoming → List Out → Type 0
HaveTheirData m came outs = AllByRecursion (λ o. HasItsData m came o.header o.bytes) outs

-- what is judged of a turn's answer to a command; a turn that answers none has no response and no data
abbrev pub IsAnsweredTask : Option Answered → List Out → Type 0
IsAnsweredTask answered outs = MatchOption answered (responses outs ≡ []) (λ a. IsAnsweredAs a.command a.outcome a.own)

abbrev pub IsTiledTask : Lengths → Option Answered → List Out → Type 0
IsTiledTask l answered outs =
    MatchOption answered (data_ins outs ≡ [])
    (λ a. Tiles l a.command (data_ins a.own) (sent_data a.command (outcome_data a.outcome)))

abbrev pub IsCountedTask : Option Answered → Type 0
IsCountedTask answered = IfSome answered (λ a. AllByRecursion (λ r. r.0.exp_data_sn ≡ length (data_ins a.own)) (responses a.own))

abbrev pub HasResiduals : Option Answered → Type 0
HasResiduals answered =
    IfSome answered (λ a. (asked : Result Command CdbFault) × Means a.command.cdb asked
    × AllByRecursion (λ r. IsResidual (expected_transfer a.command) (needed asked a) r.0) (responses a.own))

abbrev pub IsToldTask : Option Answered → Type 0
IsToldTask answered = IfSome answered (λ a. AllByRecursion (λ r. IsToldAs a.outcome r.0 r.1) (responses a.own))

-- what is judged of the answer in a turn, by what stands before it
abbrev pub answer_at : Setting → List Turn → Turn → Option Answered
answer_at m before t = answered_in (standing m before) t.came t.verdict t.call t.sent

-- the end that a turn calls for: a PDU that is rejected or out of order, a session that is gone, or a logout
abbrev pub end_where_gone : Bool → Option End
end_where_gone gone = if gone then Some Reinstated else None

abbrev pub end_by : TargetAnswer → Option End
end_by answer = end_where_gone (is_gone answer)

abbrev pub end_by_reset : ResetAnswer → Option End
end_by_reset answer = end_where_gone (is_gone_by_reset answer)

abbrev pub end_of_call : Option Asking → Option End
end_of_call call = end_where_gone (finds_gone call)

abbrev pub end_of_accepted : Incoming → Option Asking → Option End
end_of_accepted (pdu b (Initiator (NopOut p)) d) call = end_of_call call
end_of_accepted (pdu b (Initiator (ScsiCommand p)) d) call = end_of_call call
end_of_accepted (pdu b (Initiator (TaskManagementRequest p)) d) call = end_of_call call
end_of_accepted (pdu b (Initiator (LoginRequest p)) d) call = end_of_call call
end_of_accepted (pdu b (Initiator (TextRequest p)) d) call = end_of_call call
end_of_accepted (pdu b (Initiator (DataOut x)) d) call = end_of_call call
end_of_accepted (pdu b (Initiator (LogoutRequest p)) d) call = if closes p then Some LoggedOut else None
end_of_accepted (pdu b (Target h) d) call = end_of_call call
end_of_accepted (faulty f b) call = end_of_call call

abbrev pub end_after : Verdict → Incoming → Option Asking → Option End
end_after Accepted came call = end_of_accepted came call
end_after Full came call = None
end_after Ignored came call = None
end_after Gap came call = Some ends.Gap
end_after (Refused reason) came call = Some (end_by_reject reason (bhs_of came))

-- no turn calls for an end
abbrev pub GoesOn : List Turn → Type 0
GoesOn ts = AtEach (λ before t. end_after t.verdict t.came t.call ≡ None) ts

-- The facts of the turns of full feature phase, of a session with this setting.
pub record Lawful (m : Setting) (ts : List Turn) : Type 0 where
  -- what becomes of each PDU is what stands before it, and the rules, say
  pub judged : AtEach (λ before t. IsJudged m (standing m before) t.came t.verdict) ts
  -- the k-th PDU that uses up a StatSN has the first one + k
  pub numbered : (k n : ℕ) → slice_get (status_numbers (sent ts)) k ≡ Some n → n ≡ wrap (m.start.stat_sn + k)
  -- each PDU that goes out has ExpCmdSN and MaxCmdSN as they are at the end of its turn
  pub windows : AtEach (λ before t. HaveWindow (standing m (before ++ t ∷ [])) t.sent) ts
  -- each R2T has the next transfer tag, and uses up no StatSN
  pub transfers : AtEach (λ before t.
      HaveNextR2t (standing m before) (wrap (m.start.stat_sn + length (status_numbers (sent before)))) t.sent) ts
  -- at the end of each turn each command so far is right: its R2Ts tile what it has to collect, and it is called once,
  -- with its data
  pub collected : AtEach (λ before t. AllByRecursion (IsRightTask m.start.lengths.burst) (tasks m.units (before ++ t ∷ []))) ts
  -- the target serves nothing else; each reset of a unit that is there has its one Reset, and nothing else has any
  pub called : AtEach (λ before t. IsCalled m (standing m before) t.verdict t.came t.call) ts
  -- each command that is answered has its one SCSI Response, behind its data, unless its session is gone; nothing else
  -- has one
  pub answered : AtEach (λ before t. IsAnsweredTask (answer_at m before t) t.sent) ts
  -- the Data-In of a read tile the bytes of its Call in runs of MaxBurstLength; nothing else has any
  pub tiled : AtEach (λ before t. IsTiledTask m.start.lengths (answer_at m before t) t.sent) ts
  -- ExpDataSN is their number
  pub counted : AtEach (λ before t. IsCountedTask (answer_at m before t)) ts
  -- the residual is what lies between what is expected and what is needed
  pub residual : AtEach (λ before t. HasResiduals (answer_at m before t)) ts
  -- status and sense are those of the Call's answer; without one, BUSY or TASK SET FULL
  pub told : AtEach (λ before t. IsToldTask (answer_at m before t)) ts
  -- what is rejected has a Reject, and nothing else has one; no turn has a PDU of another kind
  pub kinds : AtEach (λ before t. IsSentFor t.verdict t.came t.sent) ts
  -- each PDU that goes out has the data that its kind has
  pub carried : AtEach (λ before t. HaveTheirData m t.came t.sent) ts
  -- each other request that is accepted has its one answer, and nothing else
  pub requests : AtEach (λ before t. IsRequestAnswered m (standing m before) t.verdict t.came t.call t.sent) ts
  -- nothing comes behind a turn that calls for an end
  pub ends : AtEach (λ before t. GoesOn before) ts
