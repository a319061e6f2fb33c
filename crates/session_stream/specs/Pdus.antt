-- The PDUs that go out: the Data-In of a read among them.
use Rattle.std.specs.Prelude.{◌+◌, ◌≤◌, ◌==◌, ◌∷◌, ◌++◌}
use Rattle.session_rules.specs.Words.{ℕ, zero, suc, nat_lt, Bool, true, false, List, [], length, take, drop, Option, Some, None, Numbers}
use Rattle.session_rules.specs.Words.{ScsiResponse, DataIn, R2t, Reject, max_data_segment_length}
use Rattle.session_stream.specs.declared.pdus.{Pdus.Pdus, DataInPdu.DataInPdu, DataIns.DataIns, ResponsePdu.ResponsePdu}
use Rattle.session_rules.specs.{declared.lengths.Lengths.Lengths, Codes.no_transfer_tag, Turn.Out, Response.sense_part}
use Rattle.session_rules.specs.DataIn.{left_of_run, segment_size}
use Rattle.session_stream.specs.declared.pdus.Pdus.TheVariants as pdus

-- the data of an answer to a request fits a data segment; the offsets of Data-In fit 32 bits
abbrev pub AreInReach : Pdus → Type 0
AreInReach pdus.Nothing = Unit {0}
AreInReach (pdus.Reject r) = Unit {0}
AreInReach (pdus.R2t r) = Unit {0}
AreInReach (pdus.Response x) = length x.bytes.now ≤ max_data_segment_length
AreInReach (pdus.Answer x r s) = length x.bytes.now ≤ 4294967295

-- a Data-In that goes out
abbrev pub data_in_out : DataInPdu → Out
data_in_out x = record { header = DataIn x.header; bytes = x.bytes.now }

-- the Data-In of these bytes at an offset, with this DataSN
abbrev pub data_in_at : Numbers → ℕ → Lengths → ℕ → ℕ → List ℕ → Out
data_in_at numbers tag l k offset bytes = record {
  header = DataIn (record {
    last = segment_size l offset (length bytes) == left_of_run l offset (length bytes);
    task_tag = tag;
    transfer_tag = no_transfer_tag;
    numbers = numbers;
    data_sn = k;
    offset = offset;
  });
  bytes = take (segment_size l offset (length bytes)) (drop offset bytes);
}

-- a list that goes on only where there is more
abbrev pub cons_if : {A : Type 0} → Bool → A → List A → List A
cons_if true x xs = x ∷ xs
cons_if false x xs = []

-- the Data-In of these bytes from an offset on, up to so many
abbrev pub data_ins_from : Numbers → ℕ → Lengths → List ℕ → ℕ → ℕ → ℕ → List Out
data_ins_from numbers tag l bytes zero k offset = []
data_ins_from numbers tag l bytes (suc most) k offset =
    cons_if (nat_lt offset (length bytes)) (data_in_at numbers tag l k offset bytes)
    (data_ins_from numbers tag l bytes most (k + 1) (offset + segment_size l offset (length bytes)))

-- the Data-In of these bytes: each has one at least
abbrev pub data_ins_for : Numbers → ℕ → Lengths → List ℕ → List Out
data_ins_for numbers tag l bytes = data_ins_from numbers tag l bytes (length bytes) 0 0

abbrev pub data_ins_of : DataIns → List Out
data_ins_of x = data_ins_for x.numbers x.task_tag x.lengths x.bytes.now

-- the one PDU that answers a request, if any
abbrev pub out_of : Option ResponsePdu → List Out
out_of None = []
out_of (Some x) = record { header = x.header; bytes = x.bytes.now } ∷ []

-- the PDUs that actions say to write, where the basic header segment in hand has these bytes
abbrev pub sent_by : List ℕ → Pdus → List Out
sent_by bhs pdus.Nothing = []
sent_by bhs (pdus.Reject r) = record { header = Reject r; bytes = bhs } ∷ []
sent_by bhs (pdus.R2t r) = record { header = R2t r; bytes = [] } ∷ []
sent_by bhs (pdus.Response x) = out_of (Some x)
sent_by bhs (pdus.Answer x r s) = data_ins_of x ++ record { header = ScsiResponse r; bytes = sense_part s } ∷ []
