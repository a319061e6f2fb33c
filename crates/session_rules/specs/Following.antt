-- Words for what follows of a legal transcript.
use Rattle.std.specs.Prelude.{◌≡◌, ◌+◌, ◌-◌, ◌<◌, ◌↔◌}
use Rattle.session_rules.specs.Words.{ℕ, Bool, true, false, List, [], Some, None, Option, Result, AllByRecursion, count_by, Initiator}
use Rattle.session_rules.specs.Words.{Target, Numbers, NopOut, ScsiCommand, TaskManagementRequest, LoginRequest, TextRequest, DataOut}
use Rattle.session_rules.specs.Words.{LogoutRequest, CommandHeader, Accepted, Ignored, Command, CdbFault, TargetAnswer}
use Rattle.session_rules.specs.{Asking.served, Turn.Incoming, Turn.Out, Turn.Turn, Turn.pdu, Turn.faulty, Collecting.shrinks_window}
use Rattle.session_rules.specs.Window.{wrap, ahead, numbers_of, takes_number}
use Rattle.session_rules.specs.Tasks.{Task, collecting, has_ended, was_dropped, r2ts, command_calls}

-- how many numbered PDUs were accepted: a count that does not wrap
abbrev pub numbers_taken : List Turn → ℕ
numbers_taken ts = count_by (λ t. takes_number t.verdict t.came) ts

-- how many of these commands wait for their data, by which the window is smaller
abbrev pub waiting_in : ℕ → List Turn → ℕ
waiting_in units ts = count_by shrinks_window (collecting units ts)

-- MaxCmdSN, as a count that does not wrap, less the first CmdSN and 31
abbrev pub window_end : ℕ → List Turn → ℕ
window_end units ts = numbers_taken ts - waiting_in units ts

-- MaxCmdSN of PDUs that go out
abbrev pub HaveMaxCmdSn : ℕ → List Out → Type 0
HaveMaxCmdSn n outs = AllByRecursion (λ o. (numbers_of o.header).max_cmd_sn ≡ n) outs

-- a CmdSN lies between ExpCmdSN and MaxCmdSN as these numbers tell them: counted from ExpCmdSN on, it comes before the
-- number behind MaxCmdSN (RFC 1982; a MaxCmdSN one less than ExpCmdSN closes the window)
abbrev pub IsInWindow : Numbers → ℕ → Type 0
IsInWindow n cmd_sn = ahead cmd_sn n.exp_cmd_sn < ahead (wrap (n.max_cmd_sn + 1)) n.exp_cmd_sn

-- the CmdSN of a numbered PDU
abbrev pub unless_immediate : Bool → ℕ → Option ℕ
unless_immediate true cmd_sn = None
unless_immediate false cmd_sn = Some cmd_sn

abbrev pub number_in : Incoming → Option ℕ
number_in (pdu b (Initiator (NopOut p)) d) = unless_immediate p.immediate p.numbers.cmd_sn
number_in (pdu b (Initiator (ScsiCommand p)) d) = unless_immediate p.immediate p.numbers.cmd_sn
number_in (pdu b (Initiator (TaskManagementRequest p)) d) = unless_immediate p.immediate p.numbers.cmd_sn
number_in (pdu b (Initiator (LoginRequest p)) d) = None
number_in (pdu b (Initiator (TextRequest p)) d) = unless_immediate p.immediate p.numbers.cmd_sn
number_in (pdu b (Initiator (DataOut p)) d) = None
number_in (pdu b (Initiator (LogoutRequest p)) d) = unless_immediate p.immediate p.numbers.cmd_sn
number_in (pdu b (Target h) d) = None
number_in (faulty f b) = None

-- just those PDUs are ignored, of those with a CmdSN, that lie outside the window that these PDUs told
abbrev pub IgnoresOutside : List Out → Turn → Type 0
IgnoresOutside outs t = AllByRecursion (λ o. (cmd_sn : ℕ) → number_in t.came ≡ Some cmd_sn
    → (t.verdict ≡ Ignored) ↔ (IsInWindow (numbers_of o.header) cmd_sn → ⊥)) outs

-- a command that ended without a call, and that no request dropped, had no R2T
abbrev pub HadNoR2t : Task → Type 0
HadNoR2t k = has_ended k ≡ true → was_dropped k ≡ false → command_calls k.own ≡ [] → r2ts k.own ≡ []

-- the turn is that of this SCSI Command, which was accepted and called, and answered so
pub record IsCallTurn (t : Turn) (p : CommandHeader) (answer : TargetAnswer) : Type 0 where
  pub bhs : List ℕ
  pub segment : List ℕ
  pub came : t.came ≡ pdu bhs (Initiator (ScsiCommand p)) segment
  pub accepted : t.verdict ≡ Accepted
  pub unit : Option ℕ
  pub asked : Result Command CdbFault
  pub bytes : List ℕ
  pub called : t.call ≡ Some (served unit asked bytes answer)
