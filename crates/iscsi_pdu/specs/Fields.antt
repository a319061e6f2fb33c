-- Where the fields of each PDU stand in its BHS (RFC 7143, section 11).
use Rattle.std.specs.Prelude.{◌≡◌, ◌⊎◌, ℕ, ◌/◌, ◌%◌, Bool, true, false, List, slice_index, slice_range}
use Rattle.iscsi_pdu.specs.declared.header.CommandNumbers.{CommandNumbers}
use Rattle.iscsi_pdu.specs.declared.header.Numbers.{Numbers}
use Rattle.iscsi_pdu.specs.Headers.{InitiatorHeader, NopOut, ScsiCommand, TaskManagementRequest, LoginRequest}
use Rattle.iscsi_pdu.specs.Headers.{TextRequest, DataOut, LogoutRequest, TargetHeader, NopIn, ScsiResponse}
use Rattle.iscsi_pdu.specs.Headers.{TaskManagementResponse, LoginResponse, TextResponse, DataIn, LogoutResponse, R2t}
use Rattle.iscsi_pdu.specs.Headers.{Reject}
use Rattle.iscsi_pdu.specs.Number.{bit, half_at, word_at}

-- ---- fields that several kinds of PDU have at the same place

-- the opcode: the low six bits of byte 0; the bit above them is the immediate bit (11.2.1)
abbrev pub opcode_of : List ℕ → ℕ
opcode_of b = slice_index b 0 % 64

abbrev pub HasImmediate : List ℕ → Bool → Type 0
HasImmediate b immediate = immediate ≡ bit b 0 0x40

-- F, the highest bit of byte 1
abbrev pub HasLast : List ℕ → Bool → Type 0
HasLast b last = last ≡ bit b 1 0x80

-- C, the bit behind it
abbrev pub HasContinues : List ℕ → Bool → Type 0
HasContinues b continues = continues ≡ bit b 1 0x40

-- what byte 2 of an answer tells: a response, or the reason of a Reject
abbrev pub HasResponse : List ℕ → ℕ → Type 0
HasResponse b response = response ≡ slice_index b 2

abbrev pub HasLun : List ℕ → List ℕ → Type 0
HasLun b lun = lun ≡ slice_range b 8 16

-- the Initiator Task Tag
abbrev pub HasTaskTag : List ℕ → ℕ → Type 0
HasTaskTag b task_tag = task_tag ≡ word_at b 16

-- the Initiator Task Tag, and the Target Transfer Tag
abbrev pub HasTags : List ℕ → ℕ → ℕ → Type 0
HasTags b task_tag transfer_tag = HasTaskTag b task_tag × (transfer_tag ≡ word_at b 20)

abbrev pub command_numbers_at : List ℕ → CommandNumbers
command_numbers_at b = record {
  cmd_sn = word_at b 24;
  exp_stat_sn = word_at b 28;
}

abbrev pub numbers_at : List ℕ → Numbers
numbers_at b = record {
  stat_sn = word_at b 24;
  exp_cmd_sn = word_at b 28;
  max_cmd_sn = word_at b 32;
}

-- the Buffer Offset
abbrev pub HasOffset : List ℕ → ℕ → Type 0
HasOffset b offset = offset ≡ word_at b 40

-- T, C, CSG and NSG of a login (11.12 and 11.13)
abbrev pub HasLoginFlags : List ℕ → Bool → Bool → ℕ → ℕ → Type 0
HasLoginFlags b transit continues current_stage next_stage =
    (transit ≡ bit b 1 0x80) × HasContinues b continues × (current_stage ≡ slice_index b 1 / 4 % 4)
    × (next_stage ≡ slice_index b 1 % 4)

-- the ISID and the TSIH of a login, which stand where other PDUs have a LUN
abbrev pub HasSession : List ℕ → List ℕ → ℕ → Type 0
HasSession b isid tsih = (isid ≡ slice_range b 8 14) × (tsih ≡ half_at b 14)

-- ---- each kind of PDU

-- a SCSI Command without F, or with both R and W
abbrev pub HasBadFlags : List ℕ → Type 0
HasBadFlags b = (opcode_of b ≡ 0x01) × ((bit b 1 0x80 ≡ false) ⊎ ((bit b 1 0x40 ≡ true) × (bit b 1 0x20 ≡ true)))

-- The BHS of an initiator says this: its opcode and its fields, whatever its reserved bits hold (11.18, 11.3, 11.5, 11.12,
-- 11.10, 11.7 and 11.14).
abbrev pub HasInitiatorFields : List ℕ → InitiatorHeader → Type 0
HasInitiatorFields b (NopOut p) =
    (opcode_of b ≡ 0x00) × HasImmediate b p.immediate × HasLun b p.lun × HasTags b p.task_tag p.transfer_tag
    × (p.numbers ≡ command_numbers_at b)
HasInitiatorFields b (ScsiCommand p) =
    (opcode_of b ≡ 0x01) × HasImmediate b p.immediate × (p.read ≡ bit b 1 0x40) × (p.write ≡ bit b 1 0x20)
    × (p.attribute ≡ slice_index b 1 % 8) × HasLun b p.lun × HasTaskTag b p.task_tag
    × (p.expected_length ≡ word_at b 20) × (p.numbers ≡ command_numbers_at b) × (p.cdb ≡ slice_range b 32 48)
HasInitiatorFields b (TaskManagementRequest p) =
    (opcode_of b ≡ 0x02) × HasImmediate b p.immediate × (p.function ≡ slice_index b 1 % 128) × HasLun b p.lun
    × HasTaskTag b p.task_tag × (p.referenced_tag ≡ word_at b 20) × (p.numbers ≡ command_numbers_at b)
    × (p.ref_cmd_sn ≡ word_at b 32)
HasInitiatorFields b (LoginRequest p) =
    (opcode_of b ≡ 0x03) × HasLoginFlags b p.transit p.continues p.current_stage p.next_stage
    × (p.version_max ≡ slice_index b 2) × (p.version_min ≡ slice_index b 3) × HasSession b p.isid p.tsih
    × HasTaskTag b p.task_tag × (p.cid ≡ half_at b 20) × (p.numbers ≡ command_numbers_at b)
HasInitiatorFields b (TextRequest p) =
    (opcode_of b ≡ 0x04) × HasImmediate b p.immediate × HasLast b p.last × HasContinues b p.continues × HasLun b p.lun
    × HasTags b p.task_tag p.transfer_tag × (p.numbers ≡ command_numbers_at b)
HasInitiatorFields b (DataOut p) =
    (opcode_of b ≡ 0x05) × HasLast b p.last × HasLun b p.lun × HasTags b p.task_tag p.transfer_tag
    × (p.exp_stat_sn ≡ word_at b 28) × (p.data_sn ≡ word_at b 36) × HasOffset b p.offset
HasInitiatorFields b (LogoutRequest p) =
    (opcode_of b ≡ 0x06) × HasImmediate b p.immediate × (p.reason ≡ slice_index b 1 % 128) × HasTaskTag b p.task_tag
    × (p.cid ≡ half_at b 20) × (p.numbers ≡ command_numbers_at b)

-- The same of a target (11.19, 11.4, 11.6, 11.13, 11.11, 11.7, 11.15, 11.8 and 11.17).
abbrev pub HasTargetFields : List ℕ → TargetHeader → Type 0
HasTargetFields b (NopIn p) =
    (opcode_of b ≡ 0x20) × HasLun b p.lun × HasTags b p.task_tag p.transfer_tag × (p.numbers ≡ numbers_at b)
HasTargetFields b (ScsiResponse p) =
    (opcode_of b ≡ 0x21) × (p.overflow ≡ bit b 1 0x04) × (p.underflow ≡ bit b 1 0x02) × HasResponse b p.response
    × (p.status ≡ slice_index b 3) × HasTaskTag b p.task_tag × (p.numbers ≡ numbers_at b)
    × (p.exp_data_sn ≡ word_at b 36) × (p.residual ≡ word_at b 44)
HasTargetFields b (TaskManagementResponse p) =
    (opcode_of b ≡ 0x22) × HasResponse b p.response × HasTaskTag b p.task_tag × (p.numbers ≡ numbers_at b)
HasTargetFields b (LoginResponse p) =
    (opcode_of b ≡ 0x23) × HasLoginFlags b p.transit p.continues p.current_stage p.next_stage
    × HasSession b p.isid p.tsih × HasTaskTag b p.task_tag × (p.numbers ≡ numbers_at b)
    × (p.status_class ≡ slice_index b 36) × (p.status_detail ≡ slice_index b 37)
HasTargetFields b (TextResponse p) =
    (opcode_of b ≡ 0x24) × HasTags b p.task_tag p.transfer_tag × (p.numbers ≡ numbers_at b)
HasTargetFields b (DataIn p) =
    (opcode_of b ≡ 0x25) × HasLast b p.last × HasTags b p.task_tag p.transfer_tag × (p.numbers ≡ numbers_at b)
    × (p.data_sn ≡ word_at b 36) × HasOffset b p.offset
HasTargetFields b (LogoutResponse p) =
    (opcode_of b ≡ 0x26) × HasResponse b p.response × HasTaskTag b p.task_tag × (p.numbers ≡ numbers_at b)
    × (p.time_to_wait ≡ half_at b 40) × (p.time_to_retain ≡ half_at b 42)
HasTargetFields b (R2t p) =
    (opcode_of b ≡ 0x31) × HasLun b p.lun × HasTags b p.task_tag p.transfer_tag × (p.numbers ≡ numbers_at b)
    × (p.r2t_sn ≡ word_at b 36) × HasOffset b p.offset × (p.desired_length ≡ word_at b 44)
HasTargetFields b (Reject p) = (opcode_of b ≡ 0x3F) × HasResponse b p.reason × (p.numbers ≡ numbers_at b)
