-- What a job's end and its ticket say.
use Rattle.std.specs.Prelude.{◌≡◌, Option, IsSome, IfSome, Result}
use Rattle.unit_lock.specs.Calls.{Known}
use Rattle.unit_lock.specs.declared.machine.Refused.{Refused}
use Rattle.scsi_types.specs.ReplyValue.{ReplyValue}
use Rattle.scsi_types.specs.declared.names.Group.{Group}
use Rattle.unit_control.specs.Entry.{Entry}
use Rattle.forwarding.specs.Served.{Handed}

-- a job that came to an end: what its pass has seen since, and the reply or the refusal
pub record Done : Type 0 where
  pub job : Handed
  pub after : Known Entry
  pub end : Result ReplyValue (Refused Group)

-- the answer of this job is there
abbrev pub IsFor : Option Done → Handed → Type 0
IsFor held job = IsSome held × IfSome held (λ done. done.job ≡ job)
