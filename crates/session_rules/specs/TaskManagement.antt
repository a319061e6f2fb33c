-- Task management (RFC 7143, 11.5 and 11.6).
use Rattle.std.specs.Prelude.{◌≡◌, if◌then◌else◌, ◌∷◌}
use Rattle.session_rules.specs.Words.{ℕ, not, nat_lt, Bool, List, [], Option, Some, None, list_any, filter, NamesUnit, ManagementHeader}
use Rattle.session_rules.specs.Words.{Numbers, TaskManagementResponse, ResetAnswer, TaskFunction, AbortTask, AbortTaskSet, LogicalUnitReset}
use Rattle.session_rules.specs.Words.{TaskReassign, Other, ManagementOutcome, Respond, Reset}
use Rattle.session_rules.specs.{Turn.Out, Asking.Asking, Asking.reset, Tasks.Collecting, Drops.function_of, Drops.drops}
use Rattle.session_rules.specs.declared.target.ResetAnswer.TheVariants.{Done, Gone, Failed}
use Rattle.session_rules.specs.Codes.{function_complete, task_does_not_exist, lun_does_not_exist, reassignment_not_supported}
use Rattle.session_rules.specs.Codes.{function_not_supported, function_rejected}

-- the unit that a LUN names, where it is one of so many
abbrev pub there : ℕ → Option ℕ → Option ℕ
there units None = None
there units (Some unit) = if nat_lt unit units then Some unit else None

-- a request drops one of the commands that wait for their data
abbrev pub drops_one : ManagementHeader → List Collecting → Bool
drops_one x cs = list_any (λ c. drops x c.command) cs

-- those that wait behind a request, for a unit that is there and for one that is not
abbrev pub kept_by : Option ℕ → ManagementHeader → List Collecting → List Collecting
kept_by None x cs = cs
kept_by (Some unit) x cs = filter (λ c. not (drops x c.command)) cs

-- what a function comes to, on the unit of its LUN where that is there: a response, or a reset of the unit
abbrev pub management_of : TaskFunction → Bool → Option ℕ → ManagementOutcome
management_of AbortTask dropped None = Respond lun_does_not_exist
management_of AbortTask dropped (Some unit) = Respond (if dropped then function_complete else task_does_not_exist)
management_of AbortTaskSet dropped None = Respond lun_does_not_exist
management_of AbortTaskSet dropped (Some unit) = Respond function_complete
management_of LogicalUnitReset dropped None = Respond lun_does_not_exist
management_of LogicalUnitReset dropped (Some unit) = Reset unit
management_of TaskReassign dropped unit = Respond reassignment_not_supported
management_of Other dropped unit = Respond function_not_supported

-- what a request comes to, where there are so many units and these commands wait, and which of them wait behind it
pub record IsManagement (units : ℕ) (cs : List Collecting) (p : ManagementHeader) (m : ManagementOutcome)
    (kept : List Collecting) : Type 0 where
  pub unit : Option ℕ
  pub names : NamesUnit p.lun unit
  pub is : m ≡ management_of (function_of p.function) (drops_one p cs) (there units unit)
  pub kept_is : kept ≡ kept_by (there units unit) p cs

-- the response that tells of a reset; none where the session is gone
abbrev pub reset_response : ResetAnswer → Option ℕ
reset_response Done = Some function_complete
reset_response Gone = None
reset_response Failed = Some function_rejected

-- the target is asked for a reset just where the request comes to one, and this is the response
abbrev pub IsManagedBy : ManagementOutcome → Option Asking → Option ℕ → Type 0
IsManagedBy (Respond code) call response = (call ≡ None) × (response ≡ Some code)
IsManagedBy (Reset unit) call response =
    (answer : ResetAnswer) × (call ≡ Some (reset unit answer)) × (response ≡ reset_response answer)

pub record IsManaged (units : ℕ) (cs : List Collecting) (p : ManagementHeader) (call : Option Asking)
    (response : Option ℕ)
    (kept : List Collecting) : Type 0 where
  pub management : ManagementOutcome
  pub comes_to : IsManagement units cs p management kept
  pub managed : IsManagedBy management call response

abbrev pub management_answer : Numbers → ManagementHeader → Option ℕ → List Out
management_answer n p None = []
management_answer n p (Some response) = record {
  header = TaskManagementResponse (record { response = response; task_tag = p.task_tag; numbers = n });
  bytes = [];
} ∷ []
