-- NOP-Out and NOP-In (RFC 7143, 11.18 and 11.19).
use Rattle.std.specs.Prelude.{◌==◌, if◌then◌else◌, ◌∷◌}
use Rattle.session_rules.specs.Words.{ℕ, List, [], min, take, NopOutHeader, Numbers, NopIn, max_data_segment_length, Lengths}
use Rattle.session_rules.specs.{Codes.reserved_tag, Codes.no_transfer_tag, Turn.Out}

-- the data that came, as much as the initiator takes, and never more than a segment of ours
abbrev pub echo : Lengths → List ℕ → List ℕ
echo l d = take (min l.data_segment max_data_segment_length) d

-- one with the reserved tag asks for no answer; any other gets its data back, with its LUN and its tag
abbrev pub nop_answer : Numbers → Lengths → NopOutHeader → List ℕ → List Out
nop_answer n l p d = if p.task_tag == reserved_tag then [] else record {
  header = NopIn (record { lun = p.lun; task_tag = p.task_tag; transfer_tag = no_transfer_tag; numbers = n });
  bytes = echo l d;
} ∷ []
