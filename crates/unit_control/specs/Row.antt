-- What the status board shows of a unit.
use Rattle.std.specs.Prelude.{ℕ, [], ◌∷◌, length, Option, Some, None}
use Rattle.access_states.specs.AccessMap.{owner_of}
use Rattle.registrants.specs.Kind.{type_code}
use Rattle.registrants.specs.Registry.{reserved_type}
use Rattle.registrants.specs.declared.kind.ReservationType.{ReservationType}
use Rattle.unit_control.specs.declared.row.UnitRow.{UnitRow}
use Rattle.unit_control.specs.State.{ControlValue}

-- the type of a reservation by its code, and 0 where there is none
abbrev pub kind_shown : Option ReservationType → ℕ
kind_shown None = 0
kind_shown (Some kind) = type_code kind

abbrev pub row_of : ControlValue → UnitRow
row_of c =
    record {
      entries = c.count;
      owner = owner_of c.access;
      states = c.access.one.state ∷ c.access.two.state ∷ [];
      generation = c.registry.generation;
      registrants = length c.registry.registrants;
      kind = kind_shown (reserved_type c.registry.reservation);
    }
