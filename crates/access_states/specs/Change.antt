-- The access change: what becomes of the access states where a list is set (SPC-4, 5.15.2.7, 5.15.2.8 and 6.45).
use Rattle.std.specs.Prelude.{Bool, false, not, ◌&&◌, if◌then◌else◌, List, [], ◌∷◌, ℕ, Option, Some, None, Result, Ok, Err}
use Rattle.scsi_types.specs.Sense.{parameter_list_length_error, invalid_field_in_parameter_list}
use Rattle.scsi_types.specs.declared.names.Group.{Group}
use Rattle.scsi_types.specs.declared.names.Group.TheVariants.{One, Two}
use Rattle.scsi_types.specs.declared.sense.Sense.{Sense}
use Rattle.access_states.specs.declared.state.AccessState.{AccessState}
use Rattle.access_states.specs.declared.state.AccessState.TheVariants.{ActiveNonOptimized}
use Rattle.access_states.specs.declared.state.Cause.{Cause}
use Rattle.access_states.specs.declared.state.GroupAccess.{GroupAccess}
use Rattle.access_states.specs.declared.list.Named.{Named}
use Rattle.access_states.specs.declared.list.AsetFault.{AsetFault}
use Rattle.access_states.specs.declared.list.AsetFault.TheVariants.{Length, BadList}
use Rattle.access_states.specs.declared.change.Change.{Change}
use Rattle.access_states.specs.State.{is_optimized, same_state}
use Rattle.access_states.specs.AccessMap.{AccessMapValue, group_access, has_one_owner, owner_of}
use Rattle.access_states.specs.List.{named_by}

-- the group was not active/optimized, and is named as that
abbrev pub becomes_optimized : AccessState → Option AccessState → Bool
becomes_optimized old None = false
becomes_optimized old (Some state) = is_optimized state && not (is_optimized old)

-- the next state of a group, by its own and the other's: a group that is named gets the state with which it is named; one
-- that is not named keeps its own, unless the other becomes active/optimized: then it turns to active/non-optimized
abbrev pub next_state : AccessState → Option AccessState → AccessState → Option AccessState → AccessState
next_state own (Some state) other named_other = state
next_state own None other named_other = if becomes_optimized other named_other then ActiveNonOptimized else own

-- a group whose state changes has been altered by this cause; one whose state stays is as it was
abbrev pub altered_to : Cause → GroupAccess → AccessState → GroupAccess
altered_to cause old state = if same_state state old.state then old else record { state = state; altered = Some cause }

abbrev pub map_after : Cause → AccessMapValue → Named → AccessMapValue
map_after cause old named =
    record {
      one = altered_to cause old.one (next_state old.one.state named.one old.two.state named.two);
      two = altered_to cause old.two (next_state old.two.state named.two old.one.state named.one);
    }

-- just one group is left active/optimized, or the list is refused
abbrev pub with_one_owner : AccessMapValue → Result AccessMapValue AsetFault
with_one_owner map = if has_one_owner map then Ok map else Err BadList

abbrev pub after_named : Cause → AccessMapValue → Result Named AsetFault → Result AccessMapValue AsetFault
after_named cause old (Ok named) = with_one_owner (map_after cause old named)
after_named cause old (Err fault) = Err fault

-- the access states after a list, or why it is refused
unfoldable pub access_after : Cause → AccessMapValue → List ℕ → Result AccessMapValue AsetFault
access_after cause old bytes = after_named cause old (named_by bytes)

-- how a SET TARGET PORT GROUPS is refused for its list
abbrev pub fault_sense : AsetFault → Sense
fault_sense Length = parameter_list_length_error
fault_sense BadList = invalid_field_in_parameter_list

-- which groups' states changed, group 1 first, and the new owner, where another group owns the unit now
abbrev pub is_changed : AccessMapValue → AccessMapValue → Group → Bool
is_changed old new group = not (same_state (group_access old group).state (group_access new group).state)

abbrev pub new_owner : Group → Group → Option Group
new_owner One One = None
new_owner One Two = Some Two
new_owner Two One = Some One
new_owner Two Two = None

abbrev pub change_between : AccessMapValue → AccessMapValue → Change
change_between old new =
    record {
      changed = is_changed old new One ∷ is_changed old new Two ∷ [];
      owner = new_owner (owner_of old) (owner_of new);
    }
