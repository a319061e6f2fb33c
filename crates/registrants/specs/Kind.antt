-- The types of persistent reservation (SPC-4, 6.15.3.4 and 5.13.8).
use Rattle.std.specs.Prelude.{ℕ, Bool, nat_eq, nat_le, List, [], ◌∷◌, Option}
use Rattle.std.specs.List.{find}
use Rattle.registrants.specs.declared.kind.ReservationType.{ReservationType}
use Rattle.registrants.specs.declared.kind.ReservationType.TheVariants.{WriteExclusive, ExclusiveAccess}
use Rattle.registrants.specs.declared.kind.ReservationType.TheVariants.{WriteExclusiveRegistrantsOnly}
use Rattle.registrants.specs.declared.kind.ReservationType.TheVariants.{ExclusiveAccessRegistrantsOnly}
use Rattle.registrants.specs.declared.kind.ReservationType.TheVariants.{WriteExclusiveAllRegistrants}
use Rattle.registrants.specs.declared.kind.ReservationType.TheVariants.{ExclusiveAccessAllRegistrants}

abbrev pub reservation_types : List ReservationType
reservation_types =
    WriteExclusive ∷ ExclusiveAccess ∷ WriteExclusiveRegistrantsOnly ∷ ExclusiveAccessRegistrantsOnly
    ∷ WriteExclusiveAllRegistrants ∷ ExclusiveAccessAllRegistrants ∷ []

abbrev pub type_code : ReservationType → ℕ
type_code WriteExclusive = 1
type_code ExclusiveAccess = 3
type_code WriteExclusiveRegistrantsOnly = 5
type_code ExclusiveAccessRegistrantsOnly = 6
type_code WriteExclusiveAllRegistrants = 7
type_code ExclusiveAccessAllRegistrants = 8

-- the type of a code; the codes that are left out are reserved or obsolete
abbrev pub type_of : ℕ → Option ReservationType
type_of code = find (λ (kind : ReservationType). nat_eq code (type_code kind)) reservation_types

-- every registrant holds it: types 7 and 8
abbrev pub is_of_all_registrants : ReservationType → Bool
is_of_all_registrants kind = nat_le 7 (type_code kind)

-- it lets every registrant in: types 5 to 8, which are for registrants only or for all registrants
abbrev pub is_of_registrants : ReservationType → Bool
is_of_registrants kind = nat_le 5 (type_code kind)
