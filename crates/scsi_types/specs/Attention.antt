-- Unit attention conditions (SAM-5, 5.14; SPC-4, 4.5.6).
use Rattle.scsi_types.specs.declared.attention.UnitAttention.{UnitAttention}
use Rattle.scsi_types.specs.declared.attention.UnitAttention.TheVariants as attentions
use Rattle.scsi_types.specs.declared.sense.Sense.{Sense}
use Rattle.scsi_types.specs.Sense.{power_on, reservations_preempted, reservations_released}
use Rattle.scsi_types.specs.Sense.{registrations_preempted, access_state_changed}

-- the sense that tells it
abbrev pub attention_sense : UnitAttention → Sense
attention_sense attentions.PowerOn = power_on
attention_sense attentions.ReservationsPreempted = reservations_preempted
attention_sense attentions.ReservationsReleased = reservations_released
attention_sense attentions.RegistrationsPreempted = registrations_preempted
attention_sense attentions.AccessStateChanged = access_state_changed
