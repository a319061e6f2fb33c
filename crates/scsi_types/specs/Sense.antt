-- Sense data in its fixed format (SPC-4, 4.5.3).
use Rattle.std.specs.Prelude.{ℕ, true, false, if◌then◌else◌, List, [], ◌∷◌, ◌++◌}
use Rattle.byteorder.specs.Endian.{big_bytes}
use Rattle.scsi_types.specs.declared.sense.Sense.{Sense}

-- sense with no information: its key, ASC and ASCQ
abbrev pub sense : ℕ → ℕ → ℕ → Sense
sense key asc ascq = record { valid = false; key = key; information = 0; asc = asc; ascq = ascq }

-- The sense that this array tells, by the names of the additional sense codes (SPC-4, 4.5.6).
-- NO SENSE
abbrev pub no_sense : Sense
no_sense = sense 0x00 0x00 0x00

-- NOT READY
abbrev pub target_port_in_standby_state : Sense
target_port_in_standby_state = sense 0x02 0x04 0x0B

abbrev pub target_port_in_unavailable_state : Sense
target_port_in_unavailable_state = sense 0x02 0x04 0x0C

-- MEDIUM ERROR
abbrev pub write_error : Sense
write_error = sense 0x03 0x0C 0x00

abbrev pub unrecovered_read_error : Sense
unrecovered_read_error = sense 0x03 0x11 0x00

-- HARDWARE ERROR
abbrev pub internal_target_failure : Sense
internal_target_failure = sense 0x04 0x44 0x00

abbrev pub set_target_port_groups_command_failed : Sense
set_target_port_groups_command_failed = sense 0x04 0x67 0x0A

-- ILLEGAL REQUEST
abbrev pub parameter_list_length_error : Sense
parameter_list_length_error = sense 0x05 0x1A 0x00

abbrev pub invalid_opcode : Sense
invalid_opcode = sense 0x05 0x20 0x00

abbrev pub lba_out_of_range : Sense
lba_out_of_range = sense 0x05 0x21 0x00

abbrev pub invalid_field_in_cdb : Sense
invalid_field_in_cdb = sense 0x05 0x24 0x00

abbrev pub logical_unit_not_supported : Sense
logical_unit_not_supported = sense 0x05 0x25 0x00

abbrev pub invalid_field_in_parameter_list : Sense
invalid_field_in_parameter_list = sense 0x05 0x26 0x00

abbrev pub invalid_release_of_persistent_reservation : Sense
invalid_release_of_persistent_reservation = sense 0x05 0x26 0x04

abbrev pub saving_parameters_not_supported : Sense
saving_parameters_not_supported = sense 0x05 0x39 0x00

abbrev pub insufficient_registration_resources : Sense
insufficient_registration_resources = sense 0x05 0x55 0x04

-- UNIT ATTENTION
abbrev pub power_on : Sense
power_on = sense 0x06 0x29 0x00

abbrev pub reservations_preempted : Sense
reservations_preempted = sense 0x06 0x2A 0x03

abbrev pub reservations_released : Sense
reservations_released = sense 0x06 0x2A 0x04

abbrev pub registrations_preempted : Sense
registrations_preempted = sense 0x06 0x2A 0x05

abbrev pub access_state_changed : Sense
access_state_changed = sense 0x06 0x2A 0x06

-- MISCOMPARE DURING VERIFY OPERATION: INFORMATION is the offset of the first byte that differs
abbrev pub miscompare : ℕ → Sense
miscompare offset = record { valid = true; key = 0x0E; information = offset; asc = 0x1D; ascq = 0x00 }

-- the response code (current error) with VALID, an obsolete byte, the key, INFORMATION, ten more bytes,
-- COMMAND-SPECIFIC INFORMATION, ASC and ASCQ, and the rest, which is not used
abbrev pub sense_bytes : Sense → List ℕ
sense_bytes s =
    (if s.valid then 0xF0 else 0x70) ∷ 0 ∷ s.key ∷ [] ++ big_bytes 4 s.information
    ++ 0x0A ∷ 0 ∷ 0 ∷ 0 ∷ 0 ∷ s.asc ∷ s.ascq ∷ 0 ∷ 0 ∷ 0 ∷ 0 ∷ []
