-- What the end of a work on the medium tells.
use Rattle.std.specs.Prelude.{ℕ, Bool, List}
use Rattle.compare_write.specs.declared.end.MediumEnd.{MediumEnd}
use Rattle.compare_write.specs.declared.end.MediumEnd.TheVariants as ends
use Rattle.unit_control.specs.Choice.{Choice, Fine, ReadFailed, WriteFailed}
use Rattle.unit_control.specs.Medium.{Work, Finding, Done, Differs, ReadError, WriteError, IsDone}

-- the choice, with the blocks that are there after it
abbrev pub choice_at : MediumEnd → List (List ℕ) → Choice
choice_at ends.Done after = Fine
choice_at (ends.Miscompare at) after = Fine
choice_at ends.ReadFailed after = ReadFailed
choice_at ends.WriteFailed after = WriteFailed after
choice_at ends.FlushFailed after = WriteFailed after

-- the finding, with the bytes that were read
abbrev pub finding_at : MediumEnd → List ℕ → Finding
finding_at ends.Done bytes = Done bytes
finding_at (ends.Miscompare at) bytes = Differs at
finding_at ends.ReadFailed bytes = ReadError
finding_at ends.WriteFailed bytes = WriteError
finding_at ends.FlushFailed bytes = WriteError

-- a device did this work, which ended so
abbrev pub IsWorked : Bool → List (List ℕ) → List (List ℕ) → Work → MediumEnd → List ℕ → Type 0
IsWorked claims old new work end bytes = IsDone claims old new work (choice_at end new) (finding_at end bytes)

-- where the range was to be read, whether it could be or not
abbrev pub OnReading : MediumEnd → Type 0 → Type 0
OnReading ends.Done P = P
OnReading (ends.Miscompare at) P = Unit {0}
OnReading ends.ReadFailed P = P
OnReading ends.WriteFailed P = Unit {0}
OnReading ends.FlushFailed P = Unit {0}
