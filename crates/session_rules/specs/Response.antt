-- The SCSI Response of a command (RFC 7143, 11.4).
use Rattle.std.specs.Prelude.{◌≡◌, ◌<◌, ◌↔◌, ◌∷◌, ◌++◌}
use Rattle.session_rules.specs.Words.{ℕ, List, [], Option, Some, None, IsTrue, filter_map, status_code, Sense, CommandHeader}
use Rattle.session_rules.specs.Words.{ResponseHeader, TargetHeader, ScsiResponse, TargetAnswer, Replied, Outside, Busy, Gone}
use Rattle.scsi_types.specs.Sense.{sense_bytes}
use Rattle.session_rules.specs.{Codes.completed, Codes.sense_length, Turn.Out, Transfer.residual_count}
use Rattle.session_rules.specs.Answered.{Outcome, by_target, no_buffer, set_full}
use Rattle.scsi_types.specs.declared.status.Status.TheVariants as statuses

-- the SCSI Responses that went out, each with its data
abbrev pub response_with : TargetHeader → List ℕ → Option (ResponseHeader × List ℕ)
response_with (ScsiResponse p) d = Some (p, d)
response_with h d = None

abbrev pub responses : List Out → List (ResponseHeader × List ℕ)
responses outs = filter_map (λ o. response_with o.header o.bytes) outs

-- the one SCSI Response of a command, with its tag, which is the last of its PDUs
pub record HasOneResponse (p : CommandHeader) (own : List Out) : Type 0 where
  pub front : List Out
  pub last : ResponseHeader
  pub segment : List ℕ
  pub own_is : own ≡ front ++ record { header = ScsiResponse last; bytes = segment } ∷ []
  pub no_other : responses front ≡ []
  pub tag : last.task_tag ≡ p.task_tag

-- a command whose session is gone has no response
abbrev pub IsAnsweredBy : CommandHeader → TargetAnswer → List Out → Type 0
IsAnsweredBy p (Replied a) own = HasOneResponse p own
IsAnsweredBy p (Outside a) own = HasOneResponse p own
IsAnsweredBy p Busy own = HasOneResponse p own
IsAnsweredBy p Gone own = responses own ≡ []

abbrev pub IsAnsweredAs : CommandHeader → Outcome → List Out → Type 0
IsAnsweredAs p (by_target answer) own = IsAnsweredBy p answer own
IsAnsweredAs p no_buffer own = HasOneResponse p own
IsAnsweredAs p set_full own = HasOneResponse p own

-- the Residual Count is what lies between the two lengths, with U or O (11.4.5)
pub record IsResidual (expected_length transfer : ℕ) (r : ResponseHeader) : Type 0 where
  pub underflow : IsTrue r.underflow ↔ (transfer < expected_length)
  pub overflow : IsTrue r.overflow ↔ (expected_length < transfer)
  pub count : r.residual ≡ residual_count expected_length transfer

-- the sense in a response's data: its length, and its bytes (11.4.7)
abbrev pub sense_part : Option Sense → List ℕ
sense_part None = []
sense_part (Some s) = 0 ∷ sense_length ∷ sense_bytes s

-- status and sense of a response are these: each command was completed at the target
pub record IsTelling (status : ℕ) (sense : List ℕ) (r : ResponseHeader) (d : List ℕ) : Type 0 where
  pub response : r.response ≡ completed
  pub status_is : r.status ≡ status
  pub sense_is : d ≡ sense

-- status and sense of a response are those of the answer
abbrev pub IsTold : TargetAnswer → ResponseHeader → List ℕ → Type 0
IsTold (Replied a) r d = IsTelling (status_code a.status) (sense_part a.sense) r d
IsTold (Outside a) r d = IsTelling (status_code a.status) (sense_part a.sense) r d
IsTold Busy r d = IsTelling (status_code statuses.Busy) [] r d
IsTold Gone r d = ⊥

-- and BUSY where there was no buffer, TASK SET FULL where that is so
abbrev pub IsToldAs : Outcome → ResponseHeader → List ℕ → Type 0
IsToldAs (by_target answer) r d = IsTold answer r d
IsToldAs no_buffer r d = IsTelling (status_code statuses.Busy) [] r d
IsToldAs set_full r d = IsTelling (status_code statuses.TaskSetFull) [] r d
