-- What answers a request that is no SCSI Command, and is accepted: a line for each kind.
use Rattle.std.specs.Prelude.{◌≡◌}
use Rattle.session_rules.specs.Words.{ℕ, List, Option, Initiator, Target, NopOut, ScsiCommand, TaskManagementRequest, LoginRequest}
use Rattle.session_rules.specs.Words.{TextRequest, DataOut, LogoutRequest, Numbers, Verdict, Accepted, Full, Ignored, Gap, Refused}
use Rattle.session_rules.specs.{Asking.Asking, Setting.Setting, Tasks.Collecting, Standing.Standing, Nop.nop_answer, Text.text_outs}
use Rattle.session_rules.specs.{Logout.logout_answer, Turn.Incoming, Turn.pdu, Turn.faulty, Turn.Out}
use Rattle.session_rules.specs.TaskManagement.{IsManaged, management_answer}

-- its one answer, with some numbers, and nothing else; a command and its data have theirs by `answered`, and no other kind is
-- accepted
abbrev pub HasItsAnswer : Setting → Standing → Incoming → Option Asking → List Out → Type 0
HasItsAnswer m s (pdu b (Initiator (NopOut p)) d) call outs = (n : Numbers) × (outs ≡ nop_answer n m.start.lengths p d)
HasItsAnswer m s (pdu b (Initiator (TaskManagementRequest p)) d) call outs =
    (n : Numbers) × (response : Option ℕ) × (kept : List Collecting)
    × IsManaged m.units s.collecting p call response kept × (outs ≡ management_answer n p response)
HasItsAnswer m s (pdu b (Initiator (TextRequest p)) d) call outs = (n : Numbers) × (outs ≡ text_outs n m p d)
HasItsAnswer m s (pdu b (Initiator (LogoutRequest p)) d) call outs = (n : Numbers) × (outs ≡ logout_answer n p)
HasItsAnswer m s (pdu b (Initiator (ScsiCommand p)) d) call outs = Unit {0}
HasItsAnswer m s (pdu b (Initiator (DataOut x)) d) call outs = Unit {0}
HasItsAnswer m s (pdu b (Initiator (LoginRequest p)) d) call outs = ⊥
HasItsAnswer m s (pdu b (Target h) d) call outs = ⊥
HasItsAnswer m s (faulty f b) call outs = ⊥

abbrev pub IsRequestAnswered : Setting → Standing → Verdict → Incoming → Option Asking → List Out → Type 0
IsRequestAnswered m s Accepted came call outs = HasItsAnswer m s came call outs
IsRequestAnswered m s Full came call outs = Unit {0}
IsRequestAnswered m s Ignored came call outs = Unit {0}
IsRequestAnswered m s Gap came call outs = Unit {0}
IsRequestAnswered m s (Refused reason) came call outs = Unit {0}
