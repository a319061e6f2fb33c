-- With which status the program ends that has not served, or not flushed.
use Rattle.std.specs.Prelude.{ℕ}
use Rattle.command_line.specs.declared.fault.Fault.{Fault}
use Rattle.command_line.specs.declared.fault.Fault.TheVariants.{WrongWords, OtherUnit, CannotUseUnit, CannotUseRegistrationFile}
use Rattle.command_line.specs.declared.fault.Fault.TheVariants.{CannotListen, CannotListenAt, CannotControl, NoMemory, NotFlushed}

abbrev pub status_of : Fault → ℕ
status_of WrongWords = 2
status_of (OtherUnit unit array known of_array) = 2
status_of (CannotUseUnit unit why error) = 1
status_of (CannotUseRegistrationFile unit why error) = 1
status_of (CannotListen controller portal at error) = 1
status_of (CannotListenAt at error) = 1
status_of (CannotControl error) = 1
status_of NoMemory = 1
status_of (NotFlushed unit) = 3
