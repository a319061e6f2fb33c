-- What a PDU calls for, as data, and what becomes of it with the target's answer.
use Rattle.std.specs.Prelude.{◌≡◌, ◌∷◌}
use Rattle.session_rules.specs.Words.{ℕ, List, [], Option, Some, None, Result, Command, CdbFault, CommandHeader, R2tHeader}
use Rattle.session_rules.specs.Words.{ManagementHeader, R2t, Reject}
use Rattle.iscsi_pdu.specs.declared.header.Reject.{Reject as RejectHeader}
use Rattle.session_full_feature.specs.declared.actions.Actions.{Actions, TheVariants.Send, TheVariants.Call}
use Rattle.session_full_feature.specs.declared.actions.CommandData.{CommandData, TheVariants.Came, TheVariants.Gathered}
use Rattle.session_full_feature.specs.declared.actions.Sending.{Sending}
use Rattle.session_full_feature.specs.AnswerPdus.{reply_to}
use Rattle.session_full_feature.specs.Counters.{Counters, next_numbers, after_answer, after_reply}
use Rattle.session_stream.specs.{declared.pdus.Pdus.Pdus, Pdus.sent_by}
use Rattle.session_rules.specs.{Asking.Asking, Asking.served, Asking.reset, Causes.end_by_reject, Turn.Out}
use Rattle.session_rules.specs.declared.{end.End.End, target.TargetAnswer.TargetAnswer, target.ResetAnswer.ResetAnswer}
use Rattle.session_rules.specs.TaskManagement.{reset_response, management_answer}
use Rattle.session_full_feature.specs.declared.actions.Call.TheVariants as kinds
use Rattle.session_stream.specs.declared.pdus.Pdus.TheVariants as pdus

-- What a PDU calls for: PDUs to write, and then perhaps the end; or a Reject of it, and the end; or a call of the target. Serves:
-- a command that needs so many bytes, the unit that its LUN names, what its CDB asks, its data. Resets: a request, and its unit.
pub data Step : Type 0 where
  says : List Out → Option End → Step
  rejects : RejectHeader → Step
  serves : CommandHeader → ℕ → Option ℕ → Result Command CdbFault → List ℕ → Step
  resets : ManagementHeader → ℕ → Step

-- the next R2T of a command goes out
abbrev pub says_r2t : R2tHeader → Step
says_r2t next = says (record { header = R2t next; bytes = [] } ∷ []) None

-- the end that a step calls for before the target is asked, where the PDU that came has this header segment
abbrev pub end_of : List ℕ → Step → Option End
end_of bhs (says outs end) = end
end_of bhs (rejects r) = Some (end_by_reject r.reason bhs)
end_of bhs (serves p need unit asked bytes) = None
end_of bhs (resets p unit) = None

-- ---- the step that the code's actions are

-- the data that a call has
abbrev pub call_data : CommandData → List ℕ
call_data (Came bytes) = bytes.now
call_data (Gathered bytes) = bytes.items

-- but for a Reject, nothing of what goes out is of the header segment in hand
abbrev pub telling : Pdus → Option End → Step
telling pdus.Nothing end = says [] end
telling (pdus.Reject r) end = rejects r
telling (pdus.R2t r) end = says (sent_by [] (pdus.R2t r)) end
telling (pdus.Response x) end = says (sent_by [] (pdus.Response x)) end
telling (pdus.Answer x r s) end = says (sent_by [] (pdus.Answer x r s)) end

abbrev pub said : Sending → Step
said x = telling x.pdus x.end

abbrev pub step_of : Actions → Step
step_of (Send x) = said x
step_of (Call (kinds.Serve c)) = serves c.task.command c.task.need c.unit c.asked (call_data c.bytes)
step_of (Call (kinds.Reset c)) = resets c.request c.unit

-- the PDUs that actions say to write
abbrev pub pdus_of : Actions → Pdus
pdus_of (Send x) = x.pdus
pdus_of (Call c) = pdus.Nothing

-- ---- a step that is run

-- this is the call, these PDUs go out, and these are the counters behind them
pub record IsRun (asked : Option Asking) (outs : List Out) (next : Counters) (call : Option Asking) (sent : List Out)
    (s' : Counters) : Type 0 where
  pub call_is : call ≡ asked
  pub sent_is : sent ≡ outs
  pub next_is : s' ≡ next

-- what a step makes of a turn, with the target's answer where it is asked; the PDU that came has this header segment
abbrev pub Runs : List ℕ → Step → Counters → Option Asking → List Out → Counters → Type 0
Runs bhs (says outs end) s call sent s' = IsRun None outs s call sent s'
Runs bhs (rejects r) s call sent s' = IsRun None (record { header = Reject r; bytes = bhs } ∷ []) s call sent s'
Runs bhs (serves p need unit asked bytes) s call sent s' =
    (answer : TargetAnswer)
    × IsRun (Some (served unit asked bytes answer)) (reply_to s p need answer) (after_reply answer s) call sent s'
Runs bhs (resets p unit) s call sent s' =
    (answer : ResetAnswer) × (let outs = management_answer (next_numbers s) p (reset_response answer) in
    IsRun (Some (reset unit answer)) outs (after_answer outs s) call sent s')
