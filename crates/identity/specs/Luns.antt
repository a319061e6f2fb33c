-- REPORT LUNS parameter data (SPC-4, 6.33).
use Rattle.std.specs.Prelude.{ℕ, suc, zero, ◌*◌, List, [], ◌∷◌, ◌++◌}
use Rattle.scsi_types.specs.declared.names.Place.{Place}
use Rattle.scsi_types.specs.declared.pages.LunSelect.{LunSelect}
use Rattle.scsi_types.specs.declared.pages.LunSelect.TheVariants.{Units, WellKnown, All}
use Rattle.identity.specs.Table.{Row, Byte, Shared, Number, Reserved, bits}

-- a unit's LUN by peripheral device addressing (SAM-5, 4.7.7)
abbrev pub lun : ℕ → List Row
lun unit =
    Shared (bits "ADDRESS METHOD" 2 0 ∷ bits "BUS IDENTIFIER" 6 0 ∷ [])
    ∷ Byte "TARGET OR LUN" unit
    ∷ Reserved 6
    ∷ []

-- those of the units below a number
abbrev pub luns_below : ℕ → List Row
luns_below zero = []
luns_below (suc unit) = luns_below unit ++ lun unit

-- how many units are selected: there are no well known logical units
abbrev pub selected : Place → LunSelect → ℕ
selected place Units = place.units
selected place WellKnown = 0
selected place All = place.units

abbrev pub lun_list : Place → LunSelect → List Row
lun_list place select =
    Number "LUN LIST LENGTH" 4 (8 * selected place select)
    ∷ Reserved 4
    ∷ luns_below (selected place select)
