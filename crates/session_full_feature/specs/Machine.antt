-- What a session makes of a PDU, of a fault and of an answer: a step, and its counters behind it.
use Rattle.std.specs.Prelude.{◌≡◌, ◌+◌, ◌<◌, ◌≤◌, if◌then◌else◌, ◌∷◌, ◌++◌}
use Rattle.session_rules.specs.Words.{find, ℕ, Result, length, List, [], Option, Some, None, Means, need_of, NamesUnit, Command, CdbFault}
use Rattle.session_rules.specs.Words.{CommandHeader, NopOutHeader, DataOutHeader, R2tHeader, ManagementHeader, TextHeader, LogoutHeader}
use Rattle.session_rules.specs.Words.{Header, Initiator, NopOut, ScsiCommand, DataOut, TaskManagementRequest, TextRequest, LogoutRequest}
use Rattle.session_rules.specs.{Turn.Incoming, Turn.pdu, Turn.faulty, Turn.Out, Window.wrap, Tasks.Collecting, Tasks.has_tag}
use Rattle.session_rules.specs.{Collecting.HasToCollect, Collecting.IsNext, Collecting.Continues, Standing.numbers_for}
use Rattle.session_rules.specs.{Verdict.IsJudgedPdu, Transfer.data_for, Nop.nop_answer, Text.text_outs, Text.IsMadeOf}
use Rattle.session_rules.specs.{Legal.end_by, Legal.end_by_reset, Logout.closes, Logout.logout_answer, Setting.Setting}
use Rattle.session_rules.specs.declared.end.End.{End, TheVariants.LoggedOut}
use Rattle.session_rules.specs.declared.end.End.TheVariants as ends
use Rattle.session_rules.specs.declared.target.{TargetAnswer.TargetAnswer, ResetAnswer.ResetAnswer}
use Rattle.session_rules.specs.declared.task_function.ManagementOutcome.{ManagementOutcome, TheVariants.Respond, TheVariants.Reset}
use Rattle.session_rules.specs.declared.verdict.Verdict.{Verdict}
use Rattle.session_rules.specs.declared.verdict.Verdict.TheVariants.{Accepted, Full, Ignored, Gap, Refused}
use Rattle.session_rules.specs.TaskManagement.{IsManagement, reset_response, management_answer}
use Rattle.session_tasks.specs.{declared.collecting.R2tWith.R2tWith, Slots.StandsAt, Slots.IsAskedBy, Slots.fed, Slots.waits}
use Rattle.session_full_feature.specs.Counters.{Counters, after_status, after_number, after_command, after_collecting, after_r2t}
use Rattle.session_full_feature.specs.Counters.{after_answer, after_reply, next_numbers}
use Rattle.session_full_feature.specs.AnswerPdus.{reply_with, reply_to, busy, task_set_full}
use Rattle.session_full_feature.specs.declared.text.MadeText.{MadeText}
use Rattle.session_full_feature.specs.Step.{Step, says, rejects, serves, resets, says_r2t}

-- the step is this one, and these are the counters behind it
pub record Makes (wanted : Step) (next : Counters) (step : Step) (s' : Counters) : Type 0 where
  pub step_is : step ≡ wanted
  pub next_is : s' ≡ next

-- these PDUs go out, and a status number is used up
abbrev pub Sends : Counters → List Out → Step → Counters → Type 0
Sends s outs step s' = Makes (says outs None) (after_status s) step s'

-- a request is answered by these PDUs, which are none or one, with this end
abbrev pub Answers : Counters → List Out → Option End → Step → Counters → Type 0
Answers s outs end step s' = Makes (says outs end) (after_answer outs s) step s'

-- a Reject for this reason goes out, which takes a status number, and the session ends
abbrev pub OnRefusal : Counters → ℕ → Step → Counters → Type 0
OnRefusal s reason step s' = Makes (rejects (record { reason = reason; numbers = next_numbers s })) (after_status s) step s'

-- a command is called, for what its CDB asks, where its data so far are these
pub record Calls (p : CommandHeader) (asked : Result Command CdbFault) (bytes : List ℕ) (step : Step) : Type 0 where
  pub unit : Option ℕ
  pub names : NamesUnit p.lun unit
  pub step_is : step ≡ serves p (need_of asked) unit asked (data_for p (need_of asked) bytes)

-- what the next R2T is sent with, where so many numbered commands wait
abbrev pub r2t_with_for : Counters → ℕ → R2tWith
r2t_with_for s waiting = record {
  numbers = numbers_for s.stat_sn s.standing.exp_cmd_sn waiting;
  transfer_tag = s.standing.transfer_tag;
  burst = s.setting.start.lengths.burst;
}

-- the next R2T of a command of whose data so much has come goes out, and these wait behind it
pub record Waits (s : Counters) (cs : List Collecting) (p : CommandHeader) (need came count : ℕ) (next : R2tHeader)
    (s' : Counters) : Type 0 where
  pub is_next : IsNext s.setting.start.lengths.burst p need came count next
  pub transfer : next.transfer_tag ≡ s.standing.transfer_tag
  pub numbers : next.numbers ≡ next_numbers (after_collecting cs s)
  pub next_is : s' ≡ after_r2t (after_collecting cs s)

-- a command begins to wait, and its first R2T goes out
abbrev pub BeginsToWait : Counters → CommandHeader → ℕ → List ℕ → R2tHeader → Counters → Type 0
BeginsToWait s p need d next s' = Waits s (s.standing.collecting ++ waits p d next 1 ∷ []) p need (length d) 0 next s'

-- a command that was accepted takes its number; it is called, or its first R2T goes out, or there was no buffer for its
-- data
pub data OnOpened (s : Counters) (p : CommandHeader) (asked : Result Command CdbFault) (d : List ℕ) (step : Step)
    (s' : Counters) : Type 0 where
  calls : (HasToCollect p (need_of asked) (length d) → ⊥) → Calls p asked d step → s' ≡ after_command p s
      → OnOpened s p asked d step s'
  sends_first_r2t : HasToCollect p (need_of asked) (length d) → (next : R2tHeader) → step ≡ says_r2t next
      → BeginsToWait (after_command p s) p (need_of asked) d next s' → OnOpened s p asked d step s'
  turns_away : HasToCollect p (need_of asked) (length d)
      → Sends (after_command p s) (reply_with (after_command p s) p (need_of asked) [] busy) step s'
      → OnOpened s p asked d step s'

pub record OnAccepted (s : Counters) (p : CommandHeader) (d : List ℕ) (step : Step) (s' : Counters) : Type 0 where
  pub asked : Result Command CdbFault
  pub asked_by : IsAskedBy p asked
  pub by : OnOpened s p asked d step s'

-- a Data-Out that continues a command: more is to come for its R2T, or the next one goes out, or it is called
pub data OnFed (s : Counters) (front : List Collecting) (this : Collecting) (back : List Collecting)
    (asked : Result Command CdbFault) (d : List ℕ) (end : ℕ) (step : Step) (s' : Counters) : Type 0 where
  fills : length (this.bytes ++ d) < end
      → Makes (says [] None) (after_collecting (front ++ (fed this d ∷ back)) s) step s'
      → OnFed s front this back asked d end step s'
  sends_next_r2t : length (this.bytes ++ d) ≡ end → length (this.bytes ++ d) < need_of asked → (next : R2tHeader)
      → step ≡ says_r2t next
      → Waits s (front ++ (waits this.command (this.bytes ++ d) next (wrap (this.r2t_count + 1)) ∷ back)) this.command
      (need_of asked) (length (this.bytes ++ d)) this.r2t_count next s'
      → OnFed s front this back asked d end step s'
  calls_now : need_of asked ≤ length (this.bytes ++ d) → Calls this.command asked (this.bytes ++ d) step
      → s' ≡ after_collecting (front ++ back) s → OnFed s front this back asked d end step s'

-- the command that stands there waits for this Data-Out
pub record CanTake (s : Counters) (at : ℕ) (x : DataOutHeader) (d : List ℕ) : Type 0 where
  pub this : Collecting
  pub stands : StandsAt s.standing.collecting at this
  pub found : find (has_tag x.task_tag) s.standing.collecting ≡ Some this
  pub continues : Continues this x d

pub record OnData (s : Counters) (x : DataOutHeader) (d : List ℕ) (step : Step) (s' : Counters) : Type 0 where
  pub front : List Collecting
  pub this : Collecting
  pub back : List Collecting
  pub whole : s.standing.collecting ≡ front ++ (this ∷ back)
  pub found : find (has_tag x.task_tag) s.standing.collecting ≡ Some this
  pub continues : Continues this x d
  pub asked : Result Command CdbFault
  pub asked_by : IsAskedBy this.command asked
  pub by : OnFed s front this back asked d (continues.r2t.offset + continues.r2t.desired_length) step s'

abbrev pub OnNopOut : Counters → NopOutHeader → List ℕ → Step → Counters → Type 0
OnNopOut s p d step s' =
    let mid = after_number p.immediate s in
    Answers mid (nop_answer (next_numbers mid) s.setting.start.lengths p d) None step s'

abbrev pub OnText : Counters → TextHeader → List ℕ → Step → Counters → Type 0
OnText s p d step s' =
    let mid = after_number p.immediate s in
    Answers mid (text_outs (next_numbers mid) s.setting p d) None step s'

abbrev pub OnLogout : Counters → LogoutHeader → Step → Counters → Type 0
OnLogout s p step s' =
    let mid = after_number p.immediate s in
    Answers mid (logout_answer (next_numbers mid) p) (if closes p then Some LoggedOut else None) step s'

-- an immediate command that finds the task set full
pub record OnFull (s : Counters) (p : CommandHeader) (step : Step) (s' : Counters) : Type 0 where
  pub asked : Result Command CdbFault
  pub means : Means p.cdb asked
  pub sends : Sends s (reply_with s p (need_of asked) [] task_set_full) step s'

-- a response, or a unit that is to be reset
abbrev pub OnManagedBy : ManagementOutcome → Counters → ManagementHeader → Step → Counters → Type 0
OnManagedBy (Respond response) s p step s' = Answers s (management_answer (next_numbers s) p (Some response)) None step s'
OnManagedBy (Reset unit) s p step s' = Makes (resets p unit) s step s'

pub record OnManagement (s : Counters) (p : ManagementHeader) (step : Step) (s' : Counters) : Type 0 where
  pub management : ManagementOutcome
  pub kept : List Collecting
  pub comes_to : IsManagement s.setting.units s.standing.collecting p management kept
  pub managed : OnManagedBy management (after_collecting kept (after_number p.immediate s)) p step s'

-- what a session makes of the answer to a reset, and of that to a command: where the session is gone it ends
abbrev pub OnResetAnswer : Counters → ManagementHeader → ResetAnswer → Step → Counters → Type 0
OnResetAnswer s p answer step s' =
    Answers s (management_answer (next_numbers s) p (reset_response answer)) (end_by_reset answer) step s'

abbrev pub OnAnswer : Counters → CommandHeader → ℕ → TargetAnswer → Step → Counters → Type 0
OnAnswer s p need answer step s' = Makes (says (reply_to s p need answer) (end_by answer)) (after_reply answer s) step s'

-- an accepted PDU, by its kind
abbrev pub OnTaken : Counters → Header → List ℕ → Step → Counters → Type 0
OnTaken s (Initiator (NopOut p)) d step s' = OnNopOut s p d step s'
OnTaken s (Initiator (ScsiCommand p)) d step s' = OnAccepted s p d step s'
OnTaken s (Initiator (DataOut x)) d step s' = OnData s x d step s'
OnTaken s (Initiator (TaskManagementRequest p)) d step s' = OnManagement s p step s'
OnTaken s (Initiator (TextRequest p)) d step s' = OnText s p d step s'
OnTaken s (Initiator (LogoutRequest p)) d step s' = OnLogout s p step s'
OnTaken s h d step s' = ⊥

abbrev pub OnFullPdu : Counters → Header → Step → Counters → Type 0
OnFullPdu s (Initiator (ScsiCommand p)) step s' = OnFull s p step s'
OnFullPdu s h step s' = ⊥

-- what a verdict makes of a PDU that is not accepted; one that is out of order ends the session
abbrev pub OnUnaccepted : Verdict → Counters → Step → Counters → Type 0
OnUnaccepted Accepted s step s' = ⊥
OnUnaccepted Full s step s' = ⊥
OnUnaccepted Ignored s step s' = Makes (says [] None) s step s'
OnUnaccepted Gap s step s' = Makes (says [] (Some ends.Gap)) s step s'
OnUnaccepted (Refused reason) s step s' = OnRefusal s reason step s'

-- what a verdict makes of a PDU, and of a fault
abbrev pub OnVerdict : Verdict → Counters → Header → List ℕ → Step → Counters → Type 0
OnVerdict Accepted s h d step s' = OnTaken s h d step s'
OnVerdict Full s h d step s' = OnFullPdu s h step s'
OnVerdict Ignored s h d step s' = OnUnaccepted Ignored s step s'
OnVerdict Gap s h d step s' = OnUnaccepted Gap s step s'
OnVerdict (Refused reason) s h d step s' = OnUnaccepted (Refused reason) s step s'

abbrev pub OnIncoming : Verdict → Counters → Incoming → Step → Counters → Type 0
OnIncoming v s (pdu bhs h d) step s' = OnVerdict v s h d step s'
OnIncoming v s (faulty f bhs) step s' = OnUnaccepted v s step s'

-- what a session makes of a PDU, and of a SCSI Command
pub record OnPdu (s : Counters) (h : Header) (d : List ℕ) (step : Step) (s' : Counters) : Type 0 where
  pub verdict : Verdict
  pub judged : IsJudgedPdu s.setting s.standing h d verdict
  pub made : OnVerdict verdict s h d step s'

abbrev pub OnCommand : Counters → CommandHeader → List ℕ → Step → Counters → Type 0
OnCommand s p d step s' = OnPdu s (Initiator (ScsiCommand p)) d step s'

-- what was made of the text of a Text Request; of any other PDU nothing is made
abbrev pub IsMade : Setting → Header → List ℕ → MadeText → Type 0
IsMade m (Initiator (TextRequest p)) d text = IsMadeOf text.is_made m d text.bytes.now
IsMade m h d text = Unit {0}
