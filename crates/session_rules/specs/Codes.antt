-- The numbers of the protocol that a session tells apart or sends (RFC 7143; the tags and times are those of its sections).
use Rattle.session_rules.specs.Words.{ℕ}

-- the Initiator Task Tag that no task has (11.2.1.8), and the Target Transfer Tag that names no transfer (11.7.4)
abbrev pub reserved_tag : ℕ
reserved_tag = 0xFFFFFFFF

abbrev pub no_transfer_tag : ℕ
no_transfer_tag = 0xFFFFFFFF

-- MaxCmdSN lies 31 ahead of ExpCmdSN, where no numbered command waits for its data: the window takes 32 (4.2.2.1)
abbrev pub window_width : ℕ
window_width = 32

-- ---- reasons of a Reject (11.17.1)

abbrev pub protocol_error : ℕ
protocol_error = 0x04

abbrev pub command_not_supported : ℕ
command_not_supported = 0x05

abbrev pub invalid_pdu_field : ℕ
invalid_pdu_field = 0x09

-- ---- the response code of a SCSI Response: the command was completed at the target (11.4.3)

abbrev pub completed : ℕ
completed = 0x00

-- the length of sense in the fixed format (SPC-4, 4.5.3), which a SCSI Response tells (11.4.7)
abbrev pub sense_length : ℕ
sense_length = 18

-- ---- functions of task management (11.5.1)

abbrev pub abort_task : ℕ
abort_task = 1

abbrev pub abort_task_set : ℕ
abort_task_set = 2

abbrev pub logical_unit_reset : ℕ
logical_unit_reset = 5

abbrev pub task_reassign : ℕ
task_reassign = 8

-- ---- responses to task management (11.6.1)

abbrev pub function_complete : ℕ
function_complete = 0

abbrev pub task_does_not_exist : ℕ
task_does_not_exist = 1

abbrev pub lun_does_not_exist : ℕ
lun_does_not_exist = 2

abbrev pub reassignment_not_supported : ℕ
reassignment_not_supported = 4

abbrev pub function_not_supported : ℕ
function_not_supported = 5

abbrev pub function_rejected : ℕ
function_rejected = 255

-- ---- Logout Responses (11.15.1), and Time2Wait and Time2Retain in seconds (11.15.3 and 11.15.4)

abbrev pub closed : ℕ
closed = 0

abbrev pub recovery_not_supported : ℕ
recovery_not_supported = 2

abbrev pub time_to_wait : ℕ
time_to_wait = 2

abbrev pub time_to_retain : ℕ
time_to_retain = 0
