-- The lengths in force in a session (RFC 7143, section 13).
use Rattle.session_rules.specs.Words.{true, Lengths}
use native.Mathlib.Omega.{arith}

-- those where none are negotiated: MaxRecvDataSegmentLength, MaxBurstLength, FirstBurstLength, ImmediateData
abbrev pub default_lengths : Lengths
default_lengths = record {
  data_segment = 8192;
  burst = 262144;
  first_burst = 65536;
  immediate_data = true;
  segments = omega arith;
  bursts = omega arith;
}
