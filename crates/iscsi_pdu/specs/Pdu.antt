-- What bytes spell which PDU (RFC 7143, section 11).
use Rattle.std.specs.Prelude.{◌≡◌, ℕ, ◌+◌, ◌-◌, ◌≤◌, List, length, take, drop, slice_index, slice_range}
use Rattle.iscsi_pdu.specs.declared.header.Header.{Header}
use Rattle.iscsi_pdu.specs.declared.header.Header.TheVariants.{Initiator, Target}
use Rattle.iscsi_pdu.specs.Number.{three_at, bhs_length, max_data_segment_length}
use Rattle.iscsi_pdu.specs.Fields.{HasBadFlags, HasInitiatorFields, HasTargetFields}
use Rattle.iscsi_pdu.specs.Spelling.{target_bhs, padded, pdu_length, zeros}

-- a target's PDU
abbrev pub IsTarget : Header → Type 0
IsTarget (Initiator h) = ⊥
IsTarget (Target h) = Unit {0}

-- The BHS says this header. Of an initiator, its reserved bits may hold anything; a target's has one spelling.
abbrev pub HasFields : List ℕ → Header → Type 0
HasFields b (Initiator h) = HasInitiatorFields b h × (HasBadFlags b → ⊥)
HasFields b (Target h) = HasTargetFields b h × (b ≡ target_bhs h (three_at b 5))

-- The bytes spell this PDU: its BHS, no additional segment, the data, and padding up to a multiple of four, which
-- is zeros from a target.
pub record IsPdu (b : List ℕ) (header : Header) (d : List ℕ) : Type 0 where
  pub long : bhs_length ≤ length b
  pub no_ahs : slice_index b 4 ≡ 0
  pub limit : three_at b 5 ≤ max_data_segment_length
  pub size : length b ≡ pdu_length (three_at b 5)
  pub fields : HasFields (take bhs_length b) header
  pub same_data : d ≡ slice_range b bhs_length (bhs_length + three_at b 5)
  pub padding : IsTarget header → drop (bhs_length + three_at b 5) b ≡ zeros (padded (three_at b 5) - three_at b 5)
