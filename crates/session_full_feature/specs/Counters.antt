-- What a session keeps between two turns.
use Rattle.std.specs.Prelude.{◌+◌, ◌%◌, ◌∷◌}
use Rattle.session_rules.specs.Words.{ℕ, Bool, List, [], CommandHeader, Numbers}
use Rattle.session_rules.specs.{Setting.Setting, Turn.Out, Window.wrap, Window.exp_cmd_sn_behind, Tasks.Collecting}
use Rattle.session_rules.specs.declared.target.TargetAnswer.{TargetAnswer}
use Rattle.session_rules.specs.declared.target.TargetAnswer.TheVariants.{Replied, Outside, Busy, Gone}
use Rattle.session_rules.specs.Standing.{Standing, numbers_at}

-- what stays the same, the next StatSN, and what stands behind the turns so far
pub record Counters : Type 0 where
  pub setting : Setting
  pub stat_sn : ℕ
  pub standing : Standing

-- a session begins
abbrev pub begun : Setting → Counters
begun setting = record {
  setting = setting;
  stat_sn = setting.start.stat_sn;
  standing = record { exp_cmd_sn = setting.start.exp_cmd_sn; collecting = []; transfer_tag = 0 };
}

-- a StatSN is used up, and a CmdSN is accepted
abbrev pub after_status : Counters → Counters
after_status s = record s { stat_sn = wrap (s.stat_sn + 1) }

-- behind a PDU with this I bit that was accepted
abbrev pub after_number : Bool → Counters → Counters
after_number immediate s =
    record s { standing = record (s.standing) { exp_cmd_sn = exp_cmd_sn_behind immediate s.standing.exp_cmd_sn } }

abbrev pub after_command : CommandHeader → Counters → Counters
after_command p s = after_number p.immediate s

-- the numbers of the next PDU that uses up a StatSN
abbrev pub next_numbers : Counters → Numbers
next_numbers s = numbers_at s.stat_sn s.standing

-- behind what changes the commands that wait for data, and behind an R2T
abbrev pub after_collecting : List Collecting → Counters → Counters
after_collecting cs s = record s { standing = record (s.standing) { collecting = cs } }

abbrev pub after_r2t : Counters → Counters
after_r2t s = record s { standing = record (s.standing) { transfer_tag = (s.standing.transfer_tag + 1) % 4294967295 } }

-- behind the answer to a request: none, or one PDU, which uses up a StatSN
abbrev pub after_answer : List Out → Counters → Counters
after_answer [] s = s
after_answer (o ∷ outs) s = after_status s

-- behind a target's answer: nothing goes out where the session is gone
abbrev pub after_reply : TargetAnswer → Counters → Counters
after_reply (Replied a) s = after_status s
after_reply (Outside a) s = after_status s
after_reply Busy s = after_status s
after_reply Gone s = s
