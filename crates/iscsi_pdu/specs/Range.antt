-- The values that the fields of a header can have.
use Rattle.std.specs.Prelude.{◌≡◌, ℕ, ◌^◌, ◌<◌, List, length, IsTrue}
use Rattle.iscsi_pdu.specs.declared.header.CommandNumbers.{CommandNumbers}
use Rattle.iscsi_pdu.specs.declared.header.Numbers.{Numbers}
use Rattle.iscsi_pdu.specs.Headers.{Header, Initiator, Target, InitiatorHeader, NopOut, ScsiCommand}
use Rattle.iscsi_pdu.specs.Headers.{TaskManagementRequest, LoginRequest, TextRequest, DataOut, LogoutRequest}
use Rattle.iscsi_pdu.specs.Headers.{TargetHeader, NopIn, ScsiResponse, TaskManagementResponse, LoginResponse}
use Rattle.iscsi_pdu.specs.Headers.{TextResponse, DataIn, LogoutResponse, R2t, Reject}

abbrev pub IsHalf : ℕ → Type 0
IsHalf n = n < 2 ^ 16

abbrev pub IsWord : ℕ → Type 0
IsWord n = n < 2 ^ 32

abbrev pub IsLun : List ℕ → Type 0
IsLun l = length l ≡ 8

pub record AreCommandNumbers (n : CommandNumbers) : Type 0 where
  pub cmd_sn : IsWord n.cmd_sn
  pub exp_stat_sn : IsWord n.exp_stat_sn

pub record AreNumbers (n : Numbers) : Type 0 where
  pub stat_sn : IsWord n.stat_sn
  pub exp_cmd_sn : IsWord n.exp_cmd_sn
  pub max_cmd_sn : IsWord n.max_cmd_sn

-- an initiator's header, whose flags are right
abbrev pub IsInitiatorInRange : InitiatorHeader → Type 0
IsInitiatorInRange (NopOut p) =
    IsLun p.lun × IsWord p.task_tag × IsWord p.transfer_tag × AreCommandNumbers p.numbers
IsInitiatorInRange (ScsiCommand p) =
    (IsTrue p.read → IsTrue p.write → ⊥) × (p.attribute < 8) × IsLun p.lun × IsWord p.task_tag
    × IsWord p.expected_length × AreCommandNumbers p.numbers × (length p.cdb ≡ 16)
IsInitiatorInRange (TaskManagementRequest p) =
    (p.function < 128) × IsLun p.lun × IsWord p.task_tag × IsWord p.referenced_tag
    × AreCommandNumbers p.numbers × IsWord p.ref_cmd_sn
IsInitiatorInRange (LoginRequest p) =
    (p.current_stage < 4) × (p.next_stage < 4) × (length p.isid ≡ 6) × IsHalf p.tsih
    × IsWord p.task_tag × IsHalf p.cid × AreCommandNumbers p.numbers
IsInitiatorInRange (TextRequest p) =
    IsLun p.lun × IsWord p.task_tag × IsWord p.transfer_tag × AreCommandNumbers p.numbers
IsInitiatorInRange (DataOut p) =
    IsLun p.lun × IsWord p.task_tag × IsWord p.transfer_tag × IsWord p.exp_stat_sn
    × IsWord p.data_sn × IsWord p.offset
IsInitiatorInRange (LogoutRequest p) =
    (p.reason < 128) × IsWord p.task_tag × IsHalf p.cid × AreCommandNumbers p.numbers

abbrev pub IsTargetInRange : TargetHeader → Type 0
IsTargetInRange (NopIn p) = IsLun p.lun × IsWord p.task_tag × IsWord p.transfer_tag × AreNumbers p.numbers
IsTargetInRange (ScsiResponse p) =
    IsWord p.task_tag × AreNumbers p.numbers × IsWord p.exp_data_sn × IsWord p.residual
IsTargetInRange (TaskManagementResponse p) = IsWord p.task_tag × AreNumbers p.numbers
IsTargetInRange (LoginResponse p) =
    (p.current_stage < 4) × (p.next_stage < 4) × (length p.isid ≡ 6) × IsHalf p.tsih
    × IsWord p.task_tag × AreNumbers p.numbers
IsTargetInRange (TextResponse p) = IsWord p.task_tag × IsWord p.transfer_tag × AreNumbers p.numbers
IsTargetInRange (DataIn p) =
    IsWord p.task_tag × IsWord p.transfer_tag × AreNumbers p.numbers × IsWord p.data_sn
    × IsWord p.offset
IsTargetInRange (LogoutResponse p) =
    IsWord p.task_tag × AreNumbers p.numbers × IsHalf p.time_to_wait × IsHalf p.time_to_retain
IsTargetInRange (R2t p) =
    IsLun p.lun × IsWord p.task_tag × IsWord p.transfer_tag × AreNumbers p.numbers
    × IsWord p.r2t_sn × IsWord p.offset × IsWord p.desired_length
IsTargetInRange (Reject p) = AreNumbers p.numbers

abbrev pub IsInRange : Header → Type 0
IsInRange (Initiator h) = IsInitiatorInRange h
IsInRange (Target h) = IsTargetInRange h
