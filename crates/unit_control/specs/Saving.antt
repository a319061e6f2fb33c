-- What a unit keeps of its saves, and how a PERSISTENT RESERVE OUT ends with one.
use Rattle.std.specs.Prelude.{◌≡◌, ◌⊎◌, Bool, true, false, List, [], ◌∷◌}
use Rattle.registrants.specs.Registry.{RecordValue, RegistryValue, to_last}
use Rattle.reservations.specs.Table.{Effect}
use Rattle.scsi_types.specs.ReplyValue.{ReplyValue, check}
use Rattle.scsi_types.specs.Sense.{internal_target_failure}
use Rattle.unit_control.specs.declared.records.LastSave.{LastSave}
use Rattle.unit_control.specs.declared.records.LastSave.TheVariants.{Done, Failed, Undecided}
use Rattle.unit_control.specs.Reserve.{MayFailToSave, after_effect, effect_reply}
use Rattle.unit_control.specs.State.{ControlValue}

-- the records of which a crash leaves one: the record to last, and one that may have landed
abbrev pub landed_by : LastSave → RegistryValue → List RecordValue
landed_by Done landed = []
landed_by Failed landed = []
landed_by Undecided landed = to_last landed ∷ []

abbrev pub records_left : RegistryValue → LastSave → RegistryValue → List RecordValue
records_left registry save landed = to_last registry ∷ landed_by save landed

abbrev pub is_doubtful : LastSave → Bool
is_doubtful Done = false
is_doubtful Failed = true
is_doubtful Undecided = true

-- the save failed, of which a crash leaves one of these records
abbrev pub with_doubt : ControlValue → List RecordValue → ControlValue
with_doubt c after = record c { lasting = after; doubt = true }

-- it did what its row of the table says; or what was to last could not be saved
abbrev pub IsReserved : ControlValue → Effect → ControlValue → ReplyValue → Type 0
IsReserved c effect new reply =
    ((new ≡ after_effect c effect) × (reply ≡ effect_reply effect))
    ⊎ (MayFailToSave c effect new.lasting × (new ≡ with_doubt c new.lasting) × (reply ≡ check internal_target_failure))

-- a crash leaves just the record to last of what is registered, and the last save did not fail
pub record LastsAlone (c : ControlValue) : Type 0 where
  pub lasting : c.lasting ≡ to_last c.registry ∷ []
  pub sure : c.doubt ≡ false
