-- The tasks of a session (RFC 7143, 4.4): a SCSI Command that was accepted, at its place, and the turns behind it that
-- concern it, up to the one that ends it. What a task has collected is read off its own turns.
use Rattle.std.specs.Prelude.{◌==◌, ◌&&◌, ◌||◌, if◌then◌else◌, ◌∷◌, ◌++◌}
use Rattle.session_rules.specs.Words.{ℕ, Bool, true, false, List, [], length, Option, Some, None, filter, filter_map, flat_map, cons_option}
use Rattle.session_rules.specs.Words.{list_any, last_or, CommandHeader, DataOutHeader, R2tHeader, Initiator, Target, NopOut, ScsiCommand}
use Rattle.session_rules.specs.Words.{TaskManagementRequest, LoginRequest, TextRequest, DataOut, LogoutRequest, TargetHeader, ScsiResponse}
use Rattle.session_rules.specs.Words.{R2t, TargetAnswer, Replied, Outside, Busy, Gone, Verdict, Accepted, Full, Ignored, Gap, Refused}
use Rattle.session_rules.specs.Words.{ResetAnswer}
use Rattle.session_rules.specs.{Window.wrap, Drops.drops, Drops.names_one_of, Asking.Asking, Asking.began, Asking.lives, Asking.served}
use Rattle.session_rules.specs.{Asking.reset, Asking.over, Turn.Incoming, Turn.pdu, Turn.faulty, Turn.Out, Turn.Turn, Turn.sent}
use Rattle.session_rules.specs.declared.target.ResetAnswer.TheVariants as resets

-- ---- what of a turn concerns a task

abbrev pub is_accepted : Verdict → Bool
is_accepted Accepted = true
is_accepted Full = false
is_accepted Ignored = false
is_accepted Gap = false
is_accepted (Refused reason) = false

-- a SCSI Command with its immediate data, and a Data-Out with its data
abbrev pub command_with : Incoming → Option (CommandHeader × List ℕ)
command_with (pdu b (Initiator (ScsiCommand p)) d) = Some (p, d)
command_with came = None

abbrev pub data_out_with : Incoming → Option (DataOutHeader × List ℕ)
data_out_with (pdu b (Initiator (DataOut x)) d) = Some (x, d)
data_out_with came = None

-- a request to manage tasks
abbrev pub is_management : Incoming → Bool
is_management (pdu b (Initiator (TaskManagementRequest x)) d) = true
is_management came = false

-- what concerns a command behind its own turn, where there are so many units: a Data-Out with its tag, and a request that
-- drops it, of a unit that is there
abbrev pub concerns : ℕ → CommandHeader → Incoming → Bool
concerns units p (pdu b (Initiator (NopOut x)) d) = false
concerns units p (pdu b (Initiator (ScsiCommand x)) d) = false
concerns units p (pdu b (Initiator (TaskManagementRequest x)) d) = drops x p && names_one_of units x.lun
concerns units p (pdu b (Initiator (LoginRequest x)) d) = false
concerns units p (pdu b (Initiator (TextRequest x)) d) = false
concerns units p (pdu b (Initiator (DataOut x)) d) = p.task_tag == x.task_tag
concerns units p (pdu b (Initiator (LogoutRequest x)) d) = false
concerns units p (pdu b (Target h) d) = false
concerns units p (faulty f b) = false

abbrev pub touches : ℕ → CommandHeader → Turn → Bool
touches units p t = is_accepted t.verdict && concerns units p t.came

-- the R2Ts and SCSI Responses among what went out
abbrev pub r2t_with : TargetHeader → Option R2tHeader
r2t_with (R2t r) = Some r
r2t_with h = None

abbrev pub is_r2t : TargetHeader → Bool
is_r2t (R2t r) = true
is_r2t h = false

abbrev pub is_response : TargetHeader → Bool
is_response (ScsiResponse r) = true
is_response h = false

abbrev pub r2ts_of : List Out → List R2tHeader
r2ts_of outs = filter_map (λ o. r2t_with o.header) outs

abbrev pub is_gone : TargetAnswer → Bool
is_gone (Replied a) = false
is_gone (Outside a) = false
is_gone Busy = false
is_gone Gone = true

abbrev pub is_gone_by_reset : ResetAnswer → Bool
is_gone_by_reset resets.Done = false
is_gone_by_reset resets.Gone = true
is_gone_by_reset resets.Failed = false

abbrev pub finds_gone : Option Asking → Bool
finds_gone None = false
finds_gone (Some (served unit asked bytes answer)) = is_gone answer
finds_gone (Some (reset unit answer)) = is_gone_by_reset answer
finds_gone (Some (began port kind answer)) = false
finds_gone (Some (lives tsih port answer)) = false
finds_gone (Some over) = false

-- a turn of a task that ends it: its SCSI Response goes out, it is dropped, or the session is gone
abbrev pub ends : Turn → Bool
ends t = list_any (λ o. is_response o.header) t.sent || is_management t.came || finds_gone t.call

-- ---- tasks

-- the first turns, up to the one that ends a task
abbrev pub through : (Turn → Bool) → List Turn → List Turn
through test [] = []
through test (t ∷ ts) = t ∷ (if test t then [] else through test ts)

-- its command, its immediate data, and the turns that are its own: the one in which the command came, and those
-- behind it that concern it
pub record Task : Type 0 where
  pub command : CommandHeader
  pub segment : List ℕ
  pub own : List Turn

abbrev pub accepted_command : Verdict → Incoming → Option (CommandHeader × List ℕ)
accepted_command v came = if is_accepted v then command_with came else None

abbrev pub begun_by : ℕ → Option (CommandHeader × List ℕ) → Turn → List Turn → Option Task
begun_by units None t behind = None
begun_by units (Some c) t behind =
    Some (record { command = c.0; segment = c.1; own = through ends (t ∷ filter (touches units c.0) behind) })

-- the tasks of these turns, in the order in which their commands came, where there are so many units
abbrev pub tasks : ℕ → List Turn → List Task
tasks units [] = []
tasks units (t ∷ behind) = cons_option (begun_by units (accepted_command t.verdict t.came) t behind) (tasks units behind)

abbrev pub has_ended : Task → Bool
has_ended k = list_any ends k.own

-- a request for task management dropped it
abbrev pub was_dropped : Task → Bool
was_dropped k = list_any (λ t. is_management t.came) k.own

-- ---- what passed in a task

abbrev pub data_outs : List Turn → List (DataOutHeader × List ℕ)
data_outs own = filter_map (λ t. data_out_with t.came) own

abbrev pub r2ts : List Turn → List R2tHeader
r2ts own = r2ts_of (sent own)

-- the calls of the command itself: a request that drops it may have one of its own
abbrev pub command_call : Turn → Option Asking
command_call t = if is_management t.came then None else t.call

abbrev pub command_calls : List Turn → List Asking
command_calls own = filter_map command_call own

-- its data that came: the immediate data, and that of its Data-Outs behind it
abbrev pub gathered : Task → List ℕ
gathered k = k.segment ++ flat_map (λ x. x.1) (data_outs k.own)

abbrev pub sends_r2t : Turn → Bool
sends_r2t t = list_any (λ o. is_r2t o.header) t.sent

-- what stands behind the last turn that passes, or all where none does
abbrev pub behind_last : (Turn → Bool) → List Turn → List Turn
behind_last test [] = []
behind_last test (t ∷ ts) = if list_any test ts then behind_last test ts else (if test t then ts else t ∷ ts)

-- ---- the tasks that wait for data

-- a command that waits, its data so far, its last R2T, how many it has had, and how many Data-Outs came for that one;
-- the two counts as their fields have them, modulo 2^32
pub record Collecting : Type 0 where
  pub command : CommandHeader
  pub bytes : List ℕ
  pub outstanding : Option R2tHeader
  pub r2t_count : ℕ
  pub data_sn : ℕ

abbrev pub collected : Task → Collecting
collected k = record {
  command = k.command;
  bytes = gathered k;
  outstanding = last_or None (r2ts k.own);
  r2t_count = wrap (length (r2ts k.own));
  data_sn = wrap (length (data_outs (behind_last sends_r2t k.own)));
}

abbrev pub collecting_of : Task → Option Collecting
collecting_of k = if has_ended k then None else Some (collected k)

abbrev pub collecting : ℕ → List Turn → List Collecting
collecting units ts = filter_map collecting_of (tasks units ts)

abbrev pub has_tag : ℕ → Collecting → Bool
has_tag tag c = c.command.task_tag == tag
