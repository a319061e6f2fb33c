-- A command on its way, and what serving it comes to.
use Rattle.std.specs.Prelude.{ℕ, List, IfOk, IfErr, Result}
use Rattle.unit_lock.specs.Calls.{Known, PlacedPass}
use Rattle.unit_lock.specs.declared.machine.Refused.{Refused}
use Rattle.scsi_types.specs.ReplyValue.{ReplyValue}
use Rattle.scsi_types.specs.declared.names.Group.{Group}
use Rattle.scsi_types.specs.declared.command.Command.{Command as ScsiCommand}
use Rattle.scsi_types.specs.declared.command.CdbFault.{CdbFault}
use Rattle.unit_control.specs.State.{UnitState}
use Rattle.unit_control.specs.Entry.{Entry}
use Rattle.unit_history.specs.Calls.{HasServed, HasRefused, HasWorked}
use Rattle.unit_entries.specs.Devices.{Devices, claims_of}
use Rattle.forwarding.specs.Names.{names_of}
use Rattle.desk_jobs.specs.declared.names.Names.{Names}

-- a job that a desk was handed: what it is known by, the data that came for its command, and what its pass had seen
pub record Handed : Type 0 where
  pub names : Names
  pub data_in : List ℕ
  pub seen : List Entry

abbrev pub handed : Names → List ℕ → List Entry → Handed
handed names bytes seen = record { names = names; data_in = bytes; seen = seen }

abbrev pub handed_of : PlacedPass Entry → Result ScsiCommand CdbFault → List ℕ → Group → Handed
handed_of held asked bytes by_group = handed (names_of held asked by_group) bytes held.pass.seen

-- what the session's pass was when the job was handed in
abbrev pub pass_of : Handed → Known Entry
pass_of job = record { session = job.names.session; serial = job.names.serial; seen = job.seen }

-- The job's command was served by the group of its desk, or refused, as a shared unit's `serve` promises, of its devices too.
abbrev pub HasAnsweredJob : {B R O : Type 0} → Devices B R O → UnitState → Handed → Known Entry → Result ReplyValue (Refused Group)
    → Type 0
HasAnsweredJob d s job after end =
    IfOk end (λ reply. HasServed (claims_of d) s (pass_of job) after job.names.by_group job.names.asked job.data_in reply)
    × IfOk end (λ reply. HasWorked d s job.names.session job.names.asked job.data_in reply after.seen)
    × IfErr end (λ why. HasRefused (claims_of d) s (pass_of job) after job.names.by_group job.names.asked job.data_in why)
