-- The unit attention conditions that are pending for one I_T nexus, oldest first (SAM-5, 5.14).
use Rattle.std.specs.Prelude.{Bool, true, false, not, ◌&&◌, if◌then◌else◌, List, [], ◌∷◌, ◌++◌}
use Rattle.std.specs.List.{list_any}
use Rattle.scsi_types.specs.declared.attention.UnitAttention.{UnitAttention}
use Rattle.scsi_types.specs.declared.attention.UnitAttention.TheVariants.{PowerOn, ReservationsPreempted}
use Rattle.scsi_types.specs.declared.attention.UnitAttention.TheVariants.{ReservationsReleased, RegistrationsPreempted}
use Rattle.scsi_types.specs.declared.attention.UnitAttention.TheVariants.{AccessStateChanged}

abbrev pub same_attention : UnitAttention → UnitAttention → Bool
same_attention PowerOn PowerOn = true
same_attention ReservationsPreempted ReservationsPreempted = true
same_attention ReservationsReleased ReservationsReleased = true
same_attention RegistrationsPreempted RegistrationsPreempted = true
same_attention AccessStateChanged AccessStateChanged = true
same_attention one other = false

-- the condition is among those that wait to be told
abbrev pub is_pending : List UnitAttention → UnitAttention → Bool
is_pending codes code = list_any (same_attention code) codes

-- no condition waits twice
abbrev pub without_repeats : List UnitAttention → Bool
without_repeats [] = true
without_repeats (code ∷ later) = not (is_pending later code) && without_repeats later

-- a condition that is established waits behind the others, unless it waits already
abbrev pub established : List UnitAttention → UnitAttention → List UnitAttention
established codes code = if is_pending codes code then codes else codes ++ code ∷ []
