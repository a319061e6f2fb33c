-- The asymmetric access states of target port groups, and the commands that are served in each (SPC-4, 5.15.2.4).
use Rattle.std.specs.Prelude.{ℕ, Bool, true, false, nat_eq, if◌then◌else◌, Option, Some, None}
use Rattle.scsi_types.specs.Sense.{target_port_in_standby_state, target_port_in_unavailable_state}
use Rattle.scsi_types.specs.declared.command.Op.{Op}
use Rattle.scsi_types.specs.declared.traits.ServedIn.{ServedIn}
use Rattle.scsi_types.specs.declared.traits.ServedIn.TheVariants as served
use Rattle.scsi_types.specs.Traits.{traits_of}
use Rattle.scsi_types.specs.declared.sense.Sense.{Sense}
use Rattle.access_states.specs.declared.state.AccessState.{AccessState}
use Rattle.access_states.specs.declared.state.AccessState.TheVariants.{ActiveOptimized, ActiveNonOptimized, Standby, Unavailable}
use Rattle.access_states.specs.declared.state.Cause.{Cause}
use Rattle.access_states.specs.declared.state.Cause.TheVariants.{Explicit, Implicit}

-- ASYMMETRIC ACCESS STATE (SPC-4, 6.37)
abbrev pub state_code : AccessState → ℕ
state_code ActiveOptimized = 0
state_code ActiveNonOptimized = 1
state_code Standby = 2
state_code Unavailable = 3

-- the state of a code; the states of the others are not supported
abbrev pub state_of_code : ℕ → Option AccessState
state_of_code code =
    if nat_eq code 0 then Some ActiveOptimized
    else if nat_eq code 1 then Some ActiveNonOptimized
    else if nat_eq code 2 then Some Standby
    else if nat_eq code 3 then Some Unavailable
    else None

abbrev pub same_state : AccessState → AccessState → Bool
same_state a b = nat_eq (state_code a) (state_code b)

abbrev pub is_optimized : AccessState → Bool
is_optimized state = same_state state ActiveOptimized

-- STATUS CODE (SPC-4, 6.37): whether the state was altered, and by what
abbrev pub status_code : Option Cause → ℕ
status_code None = 0
status_code (Some Explicit) = 1
status_code (Some Implicit) = 2

-- a command that is served in these states is served in standby, or in unavailable
abbrev pub in_standby : ServedIn → Bool
in_standby served.Active = false
in_standby served.Standby = true
in_standby served.Unavailable = true

abbrev pub in_unavailable : ServedIn → Bool
in_unavailable served.Active = false
in_unavailable served.Standby = false
in_unavailable served.Unavailable = true

-- the commands that are served by a port of a group in this state
abbrev pub is_served : AccessState → Op → Bool
is_served ActiveOptimized op = true
is_served ActiveNonOptimized op = true
is_served Standby op = in_standby (traits_of op).served_in
is_served Unavailable op = in_unavailable (traits_of op).served_in

-- how a command that is not served is refused
abbrev pub not_accessible : AccessState → Option Sense
not_accessible ActiveOptimized = None
not_accessible ActiveNonOptimized = None
not_accessible Standby = Some target_port_in_standby_state
not_accessible Unavailable = Some target_port_in_unavailable_state

abbrev pub refusal_in : AccessState → Op → Option Sense
refusal_in state op = if is_served state op then None else not_accessible state
