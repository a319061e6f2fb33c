-- What a slot for a pass holds.
use Rattle.std.specs.Prelude.{[], Option, Some, None}
use Rattle.scsi_types.specs.declared.names.Group.{Group}
use Rattle.unit_lock.specs.Calls.{PlacedPass}
use Rattle.unit_control.specs.Entry.{Entry}
use Rattle.session_units.specs.Submitted.{At}

-- the pass that is there; while a call has it, there is none
abbrev pub known : {P : Type 0} → (P → PlacedPass Entry) → Option P → PlacedPass Entry
known held (Some p) = held p
known held None = record { place = 0; pass = record { session = 0; serial = 0; seen = [] } }

abbrev pub at_of : {P : Type 0} → (P → PlacedPass Entry) → Option P → Group → At
at_of held p by = record { place = (known held p).place; pass = (known held p).pass; by_group = by }
