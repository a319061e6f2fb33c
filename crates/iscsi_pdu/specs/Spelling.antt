-- The one spelling of a target's PDU, and the plainest of an initiator's (RFC 7143, section 11).
use Rattle.std.specs.Prelude.{ℕ, zero, suc, ◌+◌, ◌-◌, ◌*◌, ◌/◌, ◌%◌, Bool, if◌then◌else◌}
use Rattle.std.specs.Prelude.{List, [], ◌∷◌, ◌++◌, drop, length, replicate, slice_index}
use Rattle.byteorder.specs.Endian.{big_bytes}
use Rattle.iscsi_pdu.specs.declared.header.CommandNumbers.{CommandNumbers}
use Rattle.iscsi_pdu.specs.declared.header.Numbers.{Numbers}
use Rattle.iscsi_pdu.specs.Headers.{Header, Initiator, Target, InitiatorHeader, NopOut, ScsiCommand}
use Rattle.iscsi_pdu.specs.Headers.{TaskManagementRequest, LoginRequest, TextRequest, DataOut, LogoutRequest}
use Rattle.iscsi_pdu.specs.Headers.{TargetHeader, NopIn, ScsiResponse, TaskManagementResponse, LoginResponse}
use Rattle.iscsi_pdu.specs.Headers.{TextResponse, DataIn, LogoutResponse, R2t, Reject}
use Rattle.iscsi_pdu.specs.Number.{bhs_length}

-- a flag's value in its byte
abbrev pub flag : Bool → ℕ → ℕ
flag b value = if b then value else 0

abbrev pub zeros : ℕ → List ℕ
zeros n = replicate n 0

-- a field of n bytes: those of the list, and zeros behind them
abbrev pub cells : ℕ → List ℕ → List ℕ
cells zero l = []
cells (suc n) l = slice_index l 0 ∷ cells n (drop 1 l)

abbrev pub half : ℕ → List ℕ
half n = big_bytes 2 n

abbrev pub word : ℕ → List ℕ
word n = big_bytes 4 n

-- byte 1 of a SCSI Command: F, R, W and the task attribute
abbrev pub command_flags : Bool → Bool → ℕ → ℕ
command_flags read write attribute = 0x80 + flag read 0x40 + flag write 0x20 + attribute % 8

-- byte 1 of a login: T, C, CSG and NSG
abbrev pub login_flags : Bool → Bool → ℕ → ℕ → ℕ
login_flags transit continues current next = flag transit 0x80 + flag continues 0x40 + (current % 4 * 4 + next % 4)

-- CmdSN and ExpStatSN
abbrev pub command_numbers : CommandNumbers → List ℕ
command_numbers n = word n.cmd_sn ++ word n.exp_stat_sn

-- StatSN, ExpCmdSN and MaxCmdSN
abbrev pub numbers : Numbers → List ℕ
numbers n = word n.stat_sn ++ word n.exp_cmd_sn ++ word n.max_cmd_sn

-- A BHS by its parts: bytes 0 to 3, no additional segment, the length of the data segment, bytes 8 to 15, the
-- Initiator Task Tag, bytes 20 to 23, and bytes 24 to 47 (11.2.1).
abbrev pub bhs_with : List ℕ → ℕ → List ℕ → ℕ → List ℕ → List ℕ → List ℕ
bhs_with first len at_8 task_tag at_20 at_24 =
    first ++ 0 ∷ [] ++ big_bytes 3 len ++ at_8 ++ word task_tag ++ at_20 ++ at_24

-- the plainest BHS of an initiator's header, with this length of its data segment
unfoldable pub initiator_bhs : InitiatorHeader → ℕ → List ℕ
initiator_bhs (NopOut p) len =
    bhs_with (flag p.immediate 0x40 ∷ 0x80 ∷ 0 ∷ 0 ∷ []) len
    (cells 8 p.lun) p.task_tag (word p.transfer_tag)
    (command_numbers p.numbers ++ zeros 16)
initiator_bhs (ScsiCommand p) len =
    bhs_with ((0x01 + flag p.immediate 0x40) ∷
    command_flags p.read p.write p.attribute ∷ 0 ∷ 0 ∷ []) len
    (cells 8 p.lun) p.task_tag (word p.expected_length)
    (command_numbers p.numbers ++ cells 16 p.cdb)
initiator_bhs (TaskManagementRequest p) len =
    bhs_with ((0x02 + flag p.immediate 0x40) ∷ (0x80 + p.function % 128) ∷ 0 ∷ 0 ∷ []) len
    (cells 8 p.lun) p.task_tag (word p.referenced_tag)
    (command_numbers p.numbers ++ word p.ref_cmd_sn ++ zeros 12)
initiator_bhs (LoginRequest p) len =
    bhs_with (0x43 ∷ login_flags p.transit p.continues p.current_stage p.next_stage ∷ p.version_max
    ∷ p.version_min ∷ []) len
    (cells 6 p.isid ++ half p.tsih) p.task_tag (half p.cid ++ zeros 2)
    (command_numbers p.numbers ++ zeros 16)
initiator_bhs (TextRequest p) len =
    bhs_with ((0x04 + flag p.immediate 0x40) ∷ (flag p.last 0x80 + flag p.continues 0x40) ∷ 0 ∷ 0 ∷ []) len
    (cells 8 p.lun) p.task_tag (word p.transfer_tag)
    (command_numbers p.numbers ++ zeros 16)
initiator_bhs (DataOut p) len =
    bhs_with (0x05 ∷ flag p.last 0x80 ∷ 0 ∷ 0 ∷ []) len
    (cells 8 p.lun) p.task_tag (word p.transfer_tag)
    (zeros 4 ++ word p.exp_stat_sn ++ zeros 4 ++ word p.data_sn ++ word p.offset ++ zeros 4)
initiator_bhs (LogoutRequest p) len =
    bhs_with ((0x06 + flag p.immediate 0x40) ∷ (0x80 + p.reason % 128) ∷ 0 ∷ 0 ∷ []) len
    (zeros 8) p.task_tag (half p.cid ++ zeros 2)
    (command_numbers p.numbers ++ zeros 16)

-- the one BHS of a target's header, with this length of its data segment
unfoldable pub target_bhs : TargetHeader → ℕ → List ℕ
target_bhs (NopIn p) len =
    bhs_with (0x20 ∷ 0x80 ∷ 0 ∷ 0 ∷ []) len
    (cells 8 p.lun) p.task_tag (word p.transfer_tag)
    (numbers p.numbers ++ zeros 12)
target_bhs (ScsiResponse p) len =
    bhs_with (0x21 ∷ (0x80 + flag p.overflow 0x04 + flag p.underflow 0x02) ∷ p.response ∷ p.status ∷ []) len
    (zeros 8) p.task_tag (zeros 4)
    (numbers p.numbers ++ word p.exp_data_sn ++ zeros 4 ++ word p.residual)
target_bhs (TaskManagementResponse p) len =
    bhs_with (0x22 ∷ 0x80 ∷ p.response ∷ 0 ∷ []) len
    (zeros 8) p.task_tag (zeros 4)
    (numbers p.numbers ++ zeros 12)
target_bhs (LoginResponse p) len =
    bhs_with (0x23 ∷ login_flags p.transit p.continues p.current_stage p.next_stage ∷ 0 ∷ 0 ∷ []) len
    (cells 6 p.isid ++ half p.tsih) p.task_tag (zeros 4)
    (numbers p.numbers ++ p.status_class ∷ p.status_detail ∷ zeros 10)
target_bhs (TextResponse p) len =
    bhs_with (0x24 ∷ 0x80 ∷ 0 ∷ 0 ∷ []) len
    (zeros 8) p.task_tag (word p.transfer_tag)
    (numbers p.numbers ++ zeros 12)
target_bhs (DataIn p) len =
    bhs_with (0x25 ∷ flag p.last 0x80 ∷ 0 ∷ 0 ∷ []) len
    (zeros 8) p.task_tag (word p.transfer_tag)
    (numbers p.numbers ++ word p.data_sn ++ word p.offset ++ zeros 4)
target_bhs (LogoutResponse p) len =
    bhs_with (0x26 ∷ 0x80 ∷ p.response ∷ 0 ∷ []) len
    (zeros 8) p.task_tag (zeros 4)
    (numbers p.numbers ++ zeros 4 ++ half p.time_to_wait ++ half p.time_to_retain ++ zeros 4)
target_bhs (R2t p) len =
    bhs_with (0x31 ∷ 0x80 ∷ 0 ∷ 0 ∷ []) len
    (cells 8 p.lun) p.task_tag (word p.transfer_tag)
    (numbers p.numbers ++ word p.r2t_sn ++ word p.offset ++ word p.desired_length)
target_bhs (Reject p) len =
    bhs_with (0x3F ∷ 0x80 ∷ p.reason ∷ 0 ∷ []) len
    (zeros 8) 0xFFFFFFFF (zeros 4)
    (numbers p.numbers ++ zeros 12)

abbrev pub bhs : Header → ℕ → List ℕ
bhs (Initiator h) len = initiator_bhs h len
bhs (Target h) len = target_bhs h len

-- the length of a data segment with its padding, a multiple of four (RFC 7143, 11.1)
abbrev pub padded : ℕ → ℕ
padded n = (n + 3) / 4 * 4

-- the length of a PDU with so many bytes of data
abbrev pub pdu_length : ℕ → ℕ
pdu_length n = bhs_length + padded n

unfoldable pub spelling : Header → List ℕ → List ℕ
spelling h d = bhs h (length d) ++ d ++ zeros (padded (length d) - length d)
