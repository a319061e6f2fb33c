-- Limits of a unit, and the numbers of SPC-4 that it reads.
use Rattle.std.specs.Prelude.{ℕ, ◌^◌, ◌-◌}

-- the last length of a history: it is counted in 64 bits
abbrev pub last_length : ℕ
last_length = 2 ^ 64 - 1

-- the most sessions that are attached to a unit
abbrev pub most_sessions : ℕ
most_sessions = 64

-- the length of the parameter list of PERSISTENT RESERVE OUT (SPC-4, 6.16.3)
abbrev pub reserve_list_length : ℕ
reserve_list_length = 24

-- the flags in byte 20 of that list, by their values
abbrev pub spec_i_pt_flag : ℕ
spec_i_pt_flag = 8

abbrev pub all_tg_pt_flag : ℕ
all_tg_pt_flag = 4

abbrev pub aptpl_flag : ℕ
aptpl_flag = 1
