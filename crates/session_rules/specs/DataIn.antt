-- The Data-In PDUs of a read (RFC 7143, 11.7).
use Rattle.std.specs.Prelude.{◌≡◌, ◌-◌, ◌%◌, ◌<◌, ◌↔◌}
use Rattle.session_rules.specs.Words.{ℕ, min, List, length, take, Option, Some, None, IsTrue, slice_get, filter_map, flat_map}
use Rattle.session_rules.specs.Words.{CommandHeader, DataInHeader, TargetHeader, DataIn, max_data_segment_length, Lengths}
use Rattle.session_rules.specs.{Codes.no_transfer_tag, Turn.Out}

-- the Data-In PDUs that went out, each with its data
abbrev pub data_in_with : TargetHeader → List ℕ → Option (DataInHeader × List ℕ)
data_in_with (DataIn p) d = Some (p, d)
data_in_with h d = None

abbrev pub data_ins : List Out → List (DataInHeader × List ℕ)
data_ins outs = filter_map (λ o. data_in_with o.header o.bytes) outs

-- the data of segments, one behind the other
abbrev pub joined_data : List (DataInHeader × List ℕ) → List ℕ
joined_data segments = flat_map (λ s. s.1) segments

-- what is left at an offset: to the end of its run, which is as long as MaxBurstLength (11.7.1), or to that of the data
abbrev pub left_of_run : Lengths → ℕ → ℕ → ℕ
left_of_run l offset total = min (l.burst - offset % l.burst) (total - offset)

-- how many bytes the Data-In at an offset carries: as many as are left, up to the initiator's
-- MaxRecvDataSegmentLength and our own limit
abbrev pub segment_size : Lengths → ℕ → ℕ → ℕ
segment_size l offset total = min (min (left_of_run l offset total) l.data_segment) max_data_segment_length

-- the Data-In at a place among those of a command that returns so many bytes: DataSN counts, the offset is where it
-- lies, and F stands where it ends its run or the data
pub record IsSegment (l : Lengths) (p : CommandHeader) (total : ℕ) (segments : List (DataInHeader × List ℕ)) (k : ℕ)
    (h : DataInHeader) (d : List ℕ) : Type 0 where
  pub number : h.data_sn ≡ k
  pub place : h.offset ≡ length (joined_data (take k segments))
  pub some : 0 < length d
  pub size : length d ≡ segment_size l h.offset total
  pub last : IsTrue h.last ↔ (length d ≡ left_of_run l h.offset total)
  pub tag : h.task_tag ≡ p.task_tag
  pub no_transfer : h.transfer_tag ≡ no_transfer_tag
  pub no_status : h.numbers.stat_sn ≡ 0

-- the Data-In segments tile these bytes, once and in order
pub record Tiles (l : Lengths) (p : CommandHeader) (segments : List (DataInHeader × List ℕ))
    (bytes : List ℕ) : Type 0 where
  pub joined : joined_data segments ≡ bytes
  pub each : (k : ℕ) (h : DataInHeader) (d : List ℕ) → slice_get segments k ≡ Some (h, d)
      → IsSegment l p (length bytes) segments k h d
