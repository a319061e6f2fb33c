-- What a table of registrants stands for.
use Rattle.std.specs.Prelude.{◌≤◌, length, vec_capacity}
use Rattle.scsi_types.specs.Nexus.{Nexus}
use Rattle.reservations.specs.declared.request.PrEnd.{PrEnd}
use Rattle.reservations.specs.declared.request.PrOut.{PrOut}
use Rattle.reservations.specs.declared.table.Table.{Table}
use Rattle.registrants.specs.Registry.{IsAscending, RegistryValue, most_registrants}
use Rattle.reservations.specs.Table.{Effect, HasEffect}

abbrev pub value_of : Table → RegistryValue
value_of t = record {
  registrants = t.registrants.items;
  reservation = t.reservation;
  aptpl = t.aptpl;
  generation = t.generation;
}

-- The registrants stand in order and are no more than a unit may have, for all of whom there is memory.
pub record IsReady (t : Table) : Type 0 where
  pub ascending : IsAscending t.registrants.items
  pub few : length t.registrants.items ≤ most_registrants
  pub room : 64 ≤ vec_capacity t.registrants

-- the call ended in what the table has for the request
abbrev pub Does : (RegistryValue → Nexus → PrOut → Effect) → Table → Table → Nexus → PrOut → PrEnd → Type 0
Does what old new n q end = HasEffect end (what (value_of old) n q) (value_of old) (value_of new)
