-- The values in force, by the limits of their keys and by their defaults: lengths are at least 512, and some keys come to
-- one value whatever is offered.
use Rattle.std.proofs.Common.{◌≡◌, ℕ, ◌≤◌, min, List, arith, refl, Option, Some, None}
use Rattle.std.specs.Prelude.{Bool, true, false, ◌||◌, option_map, unwrap_or}
use Rattle.login.specs.Text.{Pair, found}
use Rattle.login.specs.Number.{number_within, flag_in}
use Rattle.login.specs.Table.{limits, row_of, in_force, value_after}
use Rattle.login.specs.Parameters.{number_of, flag_of, parameters_of, IsReliedOn}
use Rattle.login.specs.declared.key.Key.TheVariants as Of
use Rattle.login.specs.declared.value.Value.TheVariants.{Number, Flag}
use Rattle.login.proofs.Agreed.{ranges}

least_of : (own default : ℕ) (o : Option ℕ) → 512 ≤ own → 512 ≤ default → ((n : ℕ) → o ≡ Some n → 512 ≤ n)
    → 512 ≤ number_of (unwrap_or (option_map (λ n. Number (min n own)) o) (Number default))
least_of own default None a b h = b
least_of own default (Some n) a b h = let k : 512 ≤ n = h n refl in omega arith

declared_of : (default : ℕ) (o : Option ℕ) → 512 ≤ default → ((n : ℕ) → o ≡ Some n → 512 ≤ n)
    → 512 ≤ number_of (unwrap_or (option_map (λ n. Number n) o) (Number default))
declared_of default None b h = b
declared_of default (Some n) b h = h n refl

burst_by : (o : Option (List ℕ)) → 512 ≤ number_of (value_after (row_of Of.MaxBurstLength) o)
burst_by None = omega arith
burst_by (Some v) =
    least_of 262144 262144 (number_within (limits 512 16777215 262144) v) (omega arith) (omega arith)
    (λ n e. (ranges (limits 512 16777215 262144) v n e).0)

segment_by : (o : Option (List ℕ)) → 512 ≤ number_of (value_after (row_of Of.MaxRecvDataSegmentLength) o)
segment_by None = omega arith
segment_by (Some v) =
    declared_of 8192 (number_within (limits 512 16777215 65536) v) (omega arith)
    (λ n e. (ranges (limits 512 16777215 65536) v n e).0)

pub burst : (ps : List Pair) → 512 ≤ number_of (in_force Of.MaxBurstLength ps)
unfolding in_force
burst ps = burst_by (found (row_of Of.MaxBurstLength).name ps)

pub segment : (ps : List Pair) → 512 ≤ number_of (in_force Of.MaxRecvDataSegmentLength ps)
unfolding in_force
segment ps = segment_by (found (row_of Of.MaxRecvDataSegmentLength).name ps)

-- ---- what every negotiation comes to

either_of : (o : Option Bool) → flag_of (unwrap_or (option_map (λ b. Flag (b || true)) o) (Flag true)) ≡ true
either_of None = refl
either_of (Some true) = refl
either_of (Some false) = refl

one_of : (o : Option ℕ) → ((n : ℕ) → o ≡ Some n → 1 ≤ n)
    → number_of (unwrap_or (option_map (λ n. Number (min n 1)) o) (Number 1)) ≡ 1
one_of None h = refl
one_of (Some n) h = let k : 1 ≤ n = h n refl in omega arith

zero_of : (o : Option ℕ) → number_of (unwrap_or (option_map (λ n. Number (min n 0)) o) (Number 0)) ≡ 0
zero_of None = refl
zero_of (Some n) = omega arith

r2t_by : (o : Option (List ℕ)) → flag_of (value_after (row_of Of.InitialR2T) o) ≡ true
r2t_by None = refl
r2t_by (Some v) = either_of (flag_in v)

pdus_by : (o : Option (List ℕ)) → flag_of (value_after (row_of Of.DataPDUInOrder) o) ≡ true
pdus_by None = refl
pdus_by (Some v) = either_of (flag_in v)

sequences_by : (o : Option (List ℕ)) → flag_of (value_after (row_of Of.DataSequenceInOrder) o) ≡ true
sequences_by None = refl
sequences_by (Some v) = either_of (flag_in v)

connections_by : (o : Option (List ℕ)) → number_of (value_after (row_of Of.MaxConnections) o) ≡ 1
connections_by None = refl
connections_by (Some v) = one_of (number_within (limits 1 65535 1) v) (λ n e. (ranges (limits 1 65535 1) v n e).0)

outstanding_by : (o : Option (List ℕ)) → number_of (value_after (row_of Of.MaxOutstandingR2T) o) ≡ 1
outstanding_by None = refl
outstanding_by (Some v) = one_of (number_within (limits 1 65535 1) v) (λ n e. (ranges (limits 1 65535 1) v n e).0)

level_by : (o : Option (List ℕ)) → number_of (value_after (row_of Of.ErrorRecoveryLevel) o) ≡ 0
level_by None = refl
level_by (Some v) = zero_of (number_within (limits 0 2 0) v)

pub relied_on : (ps : List Pair) → IsReliedOn (parameters_of ps)
unfolding parameters_of in_force
relied_on ps = record {
  initial_r2t = r2t_by (found (row_of Of.InitialR2T).name ps);
  pdus_in_order = pdus_by (found (row_of Of.DataPDUInOrder).name ps);
  sequences_in_order = sequences_by (found (row_of Of.DataSequenceInOrder).name ps);
  one_connection = connections_by (found (row_of Of.MaxConnections).name ps);
  one_r2t = outstanding_by (found (row_of Of.MaxOutstandingR2T).name ps);
  no_recovery = level_by (found (row_of Of.ErrorRecoveryLevel).name ps);
}
