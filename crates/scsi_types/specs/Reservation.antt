-- The codes of persistent reservations.
use Rattle.std.specs.Prelude.{◌≡◌, ◌⊎◌, ℕ}
use Rattle.scsi_types.specs.declared.reservation.PrInAction.{PrInAction}
use Rattle.scsi_types.specs.declared.reservation.PrInAction.TheVariants.{ReadKeys, ReadReservation}
use Rattle.scsi_types.specs.declared.reservation.PrInAction.TheVariants.{ReportCapabilities, ReadFullStatus}
use Rattle.scsi_types.specs.declared.reservation.PrOutAction.{PrOutAction}
use Rattle.scsi_types.specs.declared.reservation.PrOutAction.TheVariants.{Register, Reserve, Release, Clear}
use Rattle.scsi_types.specs.declared.reservation.PrOutAction.TheVariants.{Preempt, PreemptAndAbort}
use Rattle.scsi_types.specs.declared.reservation.PrOutAction.TheVariants.{RegisterAndIgnoreExistingKey}

-- the service actions of PERSISTENT RESERVE IN (SPC-4, 6.15.1)
abbrev pub in_code : PrInAction → ℕ
in_code ReadKeys = 0
in_code ReadReservation = 1
in_code ReportCapabilities = 2
in_code ReadFullStatus = 3

-- the service actions of PERSISTENT RESERVE OUT (SPC-4, 6.16.2)
abbrev pub out_code : PrOutAction → ℕ
out_code Register = 0
out_code Reserve = 1
out_code Release = 2
out_code Clear = 3
out_code Preempt = 4
out_code PreemptAndAbort = 5
out_code RegisterAndIgnoreExistingKey = 6

-- the types of persistent reservations: write exclusive, exclusive access, and both for registrants only and for
-- all registrants (SPC-4, 6.15.3.4)
abbrev pub IsReservationType : ℕ → Type 0
IsReservationType kind = (kind ≡ 1) ⊎ (kind ≡ 3) ⊎ (kind ≡ 5) ⊎ (kind ≡ 6) ⊎ (kind ≡ 7) ⊎ (kind ≡ 8)
