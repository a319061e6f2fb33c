-- The values in force in a session (RFC 7143, 13).
use Rattle.std.specs.Prelude.{◌≡◌, ◌⊎◌, ℕ, Bool, true, false, codes, List}
use Rattle.login.specs.Value.{value_text}
use Rattle.login.specs.Text.{Pair}
use Rattle.login.specs.Table.{in_force}
use Rattle.login.specs.declared.key.Key.TheVariants as Of
use Rattle.login.specs.declared.value.Value.{Value}
use Rattle.login.specs.declared.value.Value.TheVariants.{Number, Flag}
use Rattle.login.specs.declared.parameters.Parameters.{Parameters}

-- the number of a value, 0 where it is none; and its flag
abbrev pub number_of : Value → ℕ
number_of (Number n) = n
number_of _ = 0

abbrev pub flag_of : Value → Bool
flag_of (Flag b) = b
flag_of _ = false

unfoldable pub parameters_of : List Pair → Parameters
parameters_of ps = record {
  max_burst_length = number_of (in_force Of.MaxBurstLength ps);
  first_burst_length = number_of (in_force Of.FirstBurstLength ps);
  max_recv_data_segment_length = number_of (in_force Of.MaxRecvDataSegmentLength ps);
  max_connections = number_of (in_force Of.MaxConnections ps);
  max_outstanding_r2t = number_of (in_force Of.MaxOutstandingR2T ps);
  default_time2wait = number_of (in_force Of.DefaultTime2Wait ps);
  default_time2retain = number_of (in_force Of.DefaultTime2Retain ps);
  error_recovery_level = number_of (in_force Of.ErrorRecoveryLevel ps);
  initial_r2t = flag_of (in_force Of.InitialR2T ps);
  immediate_data = flag_of (in_force Of.ImmediateData ps);
  data_pdu_in_order = flag_of (in_force Of.DataPDUInOrder ps);
  data_sequence_in_order = flag_of (in_force Of.DataSequenceInOrder ps);
}

-- what an offer is answered with tells the value in force; or it is rejected, and the default stands
abbrev pub IsInForce : List ℕ → List ℕ → Type 0 → Type 0
IsInForce told value stands = (told ≡ value) ⊎ ((told ≡ codes "Reject") × stands)

abbrev pub flag_text : Bool → List ℕ
flag_text b = value_text (Flag b)

-- What a session relies on: every write asks for its data by R2T, one at a time, data comes in order, over one connection,
-- and nothing that was lost is recovered.
pub record IsReliedOn (p : Parameters) : Type 0 where
  pub initial_r2t : p.initial_r2t ≡ true
  pub pdus_in_order : p.data_pdu_in_order ≡ true
  pub sequences_in_order : p.data_sequence_in_order ≡ true
  pub one_connection : p.max_connections ≡ 1
  pub one_r2t : p.max_outstanding_r2t ≡ 1
  pub no_recovery : p.error_recovery_level ≡ 0
