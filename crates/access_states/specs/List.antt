-- The parameter list of SET TARGET PORT GROUPS (SPC-4, 6.45).
use Rattle.std.specs.Prelude.{ℕ, ◌+◌, ◌-◌, ◌*◌, ◌/◌, ◌%◌, nat_eq, Bool, true, not, ◌&&◌, if◌then◌else◌}
use Rattle.std.specs.Prelude.{List, [], ◌∷◌, length, map, drop, slice_index, Option, None, is_some, Result, Ok, Err}
use Rattle.std.specs.List.{list_any, range_with_len}
use Rattle.byteorder.specs.Endian.{big_number}
use Rattle.scsi_types.specs.Cdb.{is_group_list}
use Rattle.scsi_types.specs.Nexus.{group_number}
use Rattle.scsi_types.specs.declared.names.Group.{Group}
use Rattle.scsi_types.specs.declared.names.Group.TheVariants.{One, Two}
use Rattle.access_states.specs.declared.state.AccessState.{AccessState}
use Rattle.access_states.specs.declared.list.Named.{Named}
use Rattle.access_states.specs.declared.list.AsetFault.{AsetFault}
use Rattle.access_states.specs.declared.list.Descriptor.{Descriptor}
use Rattle.access_states.specs.declared.list.AsetFault.TheVariants.{Length, BadList}
use Rattle.access_states.specs.State.{state_of_code}

-- the descriptor at a byte: the low half of its first byte, and its third and fourth
abbrev pub descriptor_at : List ℕ → ℕ → Descriptor
descriptor_at bytes at = record { state = slice_index bytes at % 16; group = big_number 2 (drop (at + 2) bytes) }

-- the descriptors of four bytes each, behind four reserved bytes
abbrev pub descriptors_of : List ℕ → List Descriptor
descriptors_of bytes =
    map {A = ℕ} (λ place. descriptor_at bytes (4 * place)) (range_with_len 1 (length bytes / 4 - 1))

-- the state with which descriptors name a group, if they name it
abbrev pub state_named : List Descriptor → Group → Option AccessState
state_named [] group = None
state_named (d ∷ later) group =
    if nat_eq d.group (group_number group) then state_of_code d.state else state_named later group

-- the number of a group that there is
abbrev pub is_group : ℕ → Bool
is_group number = if nat_eq number (group_number One) then true else nat_eq number (group_number Two)

-- one of the descriptors names the group of this number
abbrev pub is_repeated : List Descriptor → ℕ → Bool
is_repeated descriptors number = list_any (λ (d : Descriptor). nat_eq d.group number) descriptors

-- every descriptor names one of the two groups and a state that is supported, and no group is named twice
abbrev pub is_proper : List Descriptor → Bool
is_proper [] = true
is_proper (d ∷ later) =
    is_group d.group && is_some (state_of_code d.state) && not (is_repeated later d.group) && is_proper later

-- the states with which descriptors name the groups, unless they are refused
abbrev pub named_in : List Descriptor → Result Named AsetFault
named_in descriptors =
    if is_proper descriptors then Ok (record { one = state_named descriptors One; two = state_named descriptors Two })
    else Err BadList

-- the states with which a list names the groups, or why it is refused
abbrev pub named_by : List ℕ → Result Named AsetFault
named_by bytes = if is_group_list (length bytes) then named_in (descriptors_of bytes) else Err Length
