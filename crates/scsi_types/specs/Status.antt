-- Status codes (SAM-5, 5.3.1).
use Rattle.std.specs.Prelude.{ℕ}
use Rattle.scsi_types.specs.declared.status.Status.{Status}
use Rattle.scsi_types.specs.declared.status.Status.TheVariants.{Good, CheckCondition, Busy, ReservationConflict, TaskSetFull}

abbrev pub status_code : Status → ℕ
status_code Good = 0x00
status_code CheckCondition = 0x02
status_code Busy = 0x08
status_code ReservationConflict = 0x18
status_code TaskSetFull = 0x28
