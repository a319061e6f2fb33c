-- What stands behind some turns, as an observer of the wire knows it (RFC 7143, 4.2.2.1): the CmdSN that is expected, the
-- commands that wait for data, and the Target Transfer Tag of the next R2T. And the window that follows of it.
use Rattle.std.specs.Prelude.{◌+◌, ◌-◌, ◌%◌}
use Rattle.session_rules.specs.Words.{ℕ, List, length, count_by, Numbers}
use Rattle.session_rules.specs.{Setting.Setting, declared.window.Window.Window, Codes.window_width, Turn.Turn, Window.wrap}
use Rattle.session_rules.specs.{Window.exp_cmd_sn_after, Collecting.shrinks_window, Tasks.Collecting, Tasks.collecting, Tasks.r2ts}

pub record Standing : Type 0 where
  pub exp_cmd_sn : ℕ
  pub collecting : List Collecting
  pub transfer_tag : ℕ

-- the Target Transfer Tag of the next R2T: they count from 0, and leave out the reserved tag
abbrev pub transfer_at : ℕ → ℕ
transfer_at n = n % 4294967295

abbrev pub standing : Setting → List Turn → Standing
standing m ts = record {
  exp_cmd_sn = exp_cmd_sn_after m.start.exp_cmd_sn ts;
  collecting = collecting m.units ts;
  transfer_tag = transfer_at (length (r2ts ts));
}

-- how many numbered commands wait for data: the window is smaller by each
abbrev pub numbered_waiting : Standing → ℕ
numbered_waiting s = count_by shrinks_window s.collecting

-- how many commands the window takes
abbrev pub window_size : Standing → ℕ
window_size s = window_width - numbered_waiting s

abbrev pub window_of : Standing → Window
window_of s = record { exp_cmd_sn = s.exp_cmd_sn; size = window_size s }

-- MaxCmdSN: ExpCmdSN + 31, less those that wait
abbrev pub last_behind : ℕ → ℕ → ℕ
last_behind exp_cmd_sn waiting = wrap (exp_cmd_sn + (window_width - 1) + (4294967296 - waiting))

abbrev pub last_in_window : Standing → ℕ
last_in_window s = last_behind s.exp_cmd_sn (numbered_waiting s)

-- the numbers of a PDU that goes out with this StatSN
abbrev pub numbers_for : ℕ → ℕ → ℕ → Numbers
numbers_for stat_sn exp_cmd_sn waiting = record {
  stat_sn = stat_sn;
  exp_cmd_sn = exp_cmd_sn;
  max_cmd_sn = last_behind exp_cmd_sn waiting;
}

abbrev pub numbers_at : ℕ → Standing → Numbers
numbers_at stat_sn s = numbers_for stat_sn s.exp_cmd_sn (numbered_waiting s)
