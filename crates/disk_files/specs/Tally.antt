-- What the device of a file counts.
use Rattle.std.specs.Prelude.{◌≡◌, ◌⊎◌, ℕ, ◌+◌, true, false, min}
use Rattle.block_file.specs.Failures.{last_count}
use Rattle.disk_files.specs.declared.tally.Tally.{Tally}

-- no call was made yet
abbrev pub none : Tally
none = record { opened = 0; failed_reads = 0; failed_writes = 0; is_lost = false }

abbrev pub all_failures : Tally → ℕ
all_failures c = min (c.failed_reads + c.failed_writes) last_count

-- the same of a device that refused so many calls beside, which count as writes that failed
abbrev pub writes_failed_with : ℕ → Tally → ℕ
writes_failed_with refused c = min (c.failed_writes + refused) last_count

abbrev pub failures_with : ℕ → Tally → ℕ
failures_with refused c = min (c.failed_reads + (c.failed_writes + refused)) last_count

-- it was opened once more; the failures go over, and that a flush failed
abbrev pub once_more_opened : Tally → Tally
once_more_opened c = record c { opened = min (c.opened + 1) last_count }

-- a flush of it has failed
abbrev pub lost : Tally → Tally
lost c = record c { is_lost = true }

-- it was opened once more; a flush that was made for that may have failed
abbrev pub IsOpenedAnew : Tally → Tally → Type 0
IsOpenedAnew old new = (new ≡ once_more_opened old) ⊎ (new ≡ once_more_opened (lost old))
