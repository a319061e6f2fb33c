-- Who may use the medium beside a reservation (SPC-4, 5.13.1, the commands that each type of reservation lets through).
use Rattle.std.specs.Prelude.{Bool, true, false, IsTrue, if◌then◌else◌, Option, Some, None}
use Rattle.scsi_types.specs.Nexus.{Nexus}
use Rattle.registrants.specs.declared.kind.ReservationType.{ReservationType}
use Rattle.registrants.specs.declared.kind.ReservationType.TheVariants.{WriteExclusive, ExclusiveAccess}
use Rattle.registrants.specs.declared.kind.ReservationType.TheVariants.{WriteExclusiveRegistrantsOnly}
use Rattle.registrants.specs.declared.kind.ReservationType.TheVariants.{ExclusiveAccessRegistrantsOnly}
use Rattle.registrants.specs.declared.kind.ReservationType.TheVariants.{WriteExclusiveAllRegistrants}
use Rattle.registrants.specs.declared.kind.ReservationType.TheVariants.{ExclusiveAccessAllRegistrants}
use Rattle.registrants.specs.declared.registrant.Reservation.{Reservation}
use Rattle.scsi_types.specs.declared.traits.Access.{Access}
use Rattle.scsi_types.specs.declared.traits.Access.TheVariants.{Read, Write, Other}
use Rattle.registrants.specs.Registry.{RegistryValue, is_held_by, is_registered}

-- what a nexus is to a reservation
pub data Party : Type 0 where
  Holder : Party
  Registered : Party
  Neither : Party

-- The table: the type of the reservation, who asks, and what for. A registrant that is not a holder is met with types 1
-- to 6 alone, since with types 7 and 8 every registrant is one.
abbrev pub permits : ReservationType → Party → Access → Bool
permits kind party Other = true
permits kind Holder Read = true
permits kind Holder Write = true
permits WriteExclusive Registered Read = true
permits WriteExclusive Registered Write = false
permits WriteExclusive Neither Read = true
permits WriteExclusive Neither Write = false
permits ExclusiveAccess Registered Read = false
permits ExclusiveAccess Registered Write = false
permits ExclusiveAccess Neither Read = false
permits ExclusiveAccess Neither Write = false
permits WriteExclusiveRegistrantsOnly Registered Read = true
permits WriteExclusiveRegistrantsOnly Registered Write = true
permits WriteExclusiveRegistrantsOnly Neither Read = true
permits WriteExclusiveRegistrantsOnly Neither Write = false
permits ExclusiveAccessRegistrantsOnly Registered Read = true
permits ExclusiveAccessRegistrantsOnly Registered Write = true
permits ExclusiveAccessRegistrantsOnly Neither Read = false
permits ExclusiveAccessRegistrantsOnly Neither Write = false
permits WriteExclusiveAllRegistrants Registered Read = true
permits WriteExclusiveAllRegistrants Registered Write = true
permits WriteExclusiveAllRegistrants Neither Read = true
permits WriteExclusiveAllRegistrants Neither Write = false
permits ExclusiveAccessAllRegistrants Registered Read = true
permits ExclusiveAccessAllRegistrants Registered Write = true
permits ExclusiveAccessAllRegistrants Neither Read = false
permits ExclusiveAccessAllRegistrants Neither Write = false

abbrev pub party_of : RegistryValue → Nexus → Party
party_of r nexus =
    if is_held_by r.reservation r.registrants nexus then Holder
    else if is_registered r.registrants nexus then Registered
    else Neither

-- without a reservation everything passes
abbrev pub is_let_through : Option Reservation → Party → Access → Bool
is_let_through None party access = true
is_let_through (Some held) party access = permits held.kind party access

abbrev pub MayAccess : RegistryValue → Nexus → Access → Type 0
MayAccess r nexus access = IsTrue (is_let_through r.reservation (party_of r nexus) access)
