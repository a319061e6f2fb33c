-- How much data a command moves, and which (RFC 7143, 11.3.4 and 11.4.5).
use Rattle.std.specs.Prelude.{◌+◌, ◌-◌, ◌||◌, if◌then◌else◌}
use Rattle.session_rules.specs.Words.{ℕ, min, List, [], take, CommandHeader}

-- E, the length that the initiator expects: none where it neither reads nor writes
abbrev pub expected_transfer : CommandHeader → ℕ
expected_transfer p = if p.read || p.write then p.expected_length else 0

-- N, the length that the command needs, or that the target returned
abbrev pub transfer_of : CommandHeader → ℕ → ℕ → ℕ
transfer_of p need returned = if p.write then need else returned

-- the data of a command: with W the first bytes that it needs and expects, as far as they came
abbrev pub data_for : CommandHeader → ℕ → List ℕ → List ℕ
data_for p need d = if p.write then take (min p.expected_length need) d else []

-- what is sent of the data of an answer: a read's, as much as is expected
abbrev pub sent_data : CommandHeader → List ℕ → List ℕ
sent_data p bytes = if p.read then take p.expected_length bytes else []

-- what lies between E and N, as far as 32 bits tell it
abbrev pub residual_count : ℕ → ℕ → ℕ
residual_count expected_length transfer = min ((expected_length - transfer) + (transfer - expected_length)) 4294967295
