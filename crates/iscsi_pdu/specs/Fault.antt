-- Why bytes spell no PDU: each fault stands only where none before it does.
use Rattle.std.specs.Prelude.{◌≡◌, ◌≢◌, ◌⊎◌, ℕ, ◌+◌, ◌-◌, ◌<◌, ◌≤◌, List, length, take, slice_index, slice_range}
use Rattle.iscsi_pdu.specs.declared.fault.PduFault.{PduFault}
use Rattle.iscsi_pdu.specs.declared.fault.PduFault.TheVariants.{
  UnknownOpcode,
  HasAhs,
  TooLong,
  BadFlags,
  BadReserved,
  NonZeroPad,
}
use Rattle.iscsi_pdu.specs.declared.header.TargetHeader.{TargetHeader}
use Rattle.iscsi_pdu.specs.declared.header.Header.TheVariants.{Target}
use Rattle.iscsi_pdu.specs.Number.{three_at, bhs_length, max_data_segment_length}
use Rattle.iscsi_pdu.specs.Spelling.{padded, pdu_length, zeros}
use Rattle.iscsi_pdu.specs.Fields.{opcode_of, HasBadFlags}
use Rattle.iscsi_pdu.specs.Pdu.{HasFields}

-- the opcodes of an initiator's PDUs without SNACK, and of a target's without Asynchronous Message (11.2.1.2)
abbrev pub IsInitiatorOpcode : ℕ → Type 0
IsInitiatorOpcode n = n ≤ 0x06

abbrev pub IsTargetOpcode : ℕ → Type 0
IsTargetOpcode n = ((0x20 ≤ n) × (n ≤ 0x26)) ⊎ (n ≡ 0x31) ⊎ (n ≡ 0x3F)

abbrev pub IsKnown : ℕ → Type 0
IsKnown n = IsInitiatorOpcode n ⊎ IsTargetOpcode n

-- a target's BHS that says no header
abbrev pub HasBadReserved : List ℕ → Type 0
HasBadReserved b = IsTargetOpcode (opcode_of b)
    × ((h : TargetHeader) → HasFields (take bhs_length b) (Target h) → ⊥)

-- the whole BHS is there, and has an opcode that is known, no additional segment, a length within the limit
pub record HasBhs (b : List ℕ) : Type 0 where
  pub long : bhs_length ≤ length b
  pub known : IsKnown (opcode_of b)
  pub no_ahs : slice_index b 4 ≡ 0
  pub limit : three_at b 5 ≤ max_data_segment_length

-- the whole of a target's PDU is there, and its padding is not zeros
abbrev pub HasBadPadding : List ℕ → Type 0
HasBadPadding b = IsTargetOpcode (opcode_of b) × (pdu_length (three_at b 5) ≤ length b)
    × (slice_range b (bhs_length + three_at b 5) (pdu_length (three_at b 5))
    ≢ zeros (padded (three_at b 5) - three_at b 5))

-- this fault stands at the front of the bytes
abbrev pub Stands : List ℕ → PduFault → Type 0
Stands b UnknownOpcode = (1 ≤ length b) × (IsKnown (opcode_of b) → ⊥)
Stands b HasAhs = (bhs_length ≤ length b) × IsKnown (opcode_of b) × (slice_index b 4 ≢ 0)
Stands b TooLong = (bhs_length ≤ length b) × IsKnown (opcode_of b) × (slice_index b 4 ≡ 0)
    × (max_data_segment_length < three_at b 5)
Stands b BadFlags = HasBhs b × HasBadFlags b
Stands b BadReserved = HasBhs b × HasBadReserved b
Stands b NonZeroPad = HasBhs b × (HasBadReserved b → ⊥) × HasBadPadding b
