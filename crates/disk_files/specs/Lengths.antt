-- How many blocks a file of a length has.
use Rattle.std.specs.Prelude.{◌≡◌, ◌≢◌, ◌≤◌, ◌%◌, ◌*◌, ◌^◌, ℕ}
use Rattle.disk_files.specs.declared.fault.FileFault.{FileFault}
use Rattle.disk_files.specs.declared.fault.FileFault.TheVariants.{NotThere, NotOpened, Length, Empty, TooLong}

-- why a file of so many bytes is no device of blocks
abbrev pub IsLengthFault : ℕ → FileFault → Type 0
IsLengthFault bytes NotThere = ⊥
IsLengthFault bytes (NotOpened error) = ⊥
IsLengthFault bytes Length = bytes % 512 ≢ 0
IsLengthFault bytes Empty = bytes ≡ 0
IsLengthFault bytes TooLong = 2 ^ 32 * 512 ≤ bytes
