-- What the board shows of a history.
use Rattle.std.specs.Prelude.{◌≡◌, List, length}
use Rattle.access_states.specs.AccessMap.{owner_of}
use Rattle.access_states.specs.State.{state_code}
use Rattle.registrants.specs.Registry.{RegistryValue, reserved_type}
use Rattle.scsi_types.specs.Nexus.{group_number}
use Rattle.status.specs.declared.row.Row.{Row}
use Rattle.unit_control.specs.State.{ControlValue, UnitState}
use Rattle.unit_control.specs.Row.{kind_shown}
use Rattle.unit_control.specs.Entry.{Entry}
use Rattle.unit_state.specs.History.{state_after}

-- The row of a state: the number of entries, the owner, the access state of each group, the generation, the number of
-- registrants, and the type of the reservation, or 0.
abbrev pub row_of : ControlValue → Row
row_of c =
    record {
      entries = c.count;
      owner = group_number (owner_of c.access);
      states = (state_code c.access.one.state, state_code c.access.two.state);
      generation = c.registry.generation;
      registrants = length c.registry.registrants;
      kind = kind_shown (reserved_type c.registry.reservation);
    }

-- the row of the state behind a history
abbrev pub row_behind : UnitState → List Entry → Row
row_behind s history = row_of (state_after s history).control

-- this is the registry of the state behind a history
abbrev pub IsRegistryBehind : UnitState → List Entry → RegistryValue → Type 0
IsRegistryBehind s history registry = registry ≡ (state_after s history).control.registry
