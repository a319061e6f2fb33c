-- The failures of a unit's devices, each counted by its own.
use Rattle.std.specs.Prelude.{ℕ, Bool, true, false, not, IsTrue}
use Rattle.block_file.specs.Failures.{Tells}
use Rattle.unit_control.specs.Choice.{Choice, Fine, ReadFailed, WriteFailed, OpenFailed, SaveFailed}
use Rattle.unit_control.specs.State.{UnitValue}

-- how often the blocks' device has failed at a read, and at a write or a flush; how often the opener has; and the device of
-- the registration file
pub record Counters : Type 0 where
  pub reads : ℕ
  pub writes : ℕ
  pub opens : ℕ
  pub saves : ℕ

abbrev pub counters : ℕ → ℕ → ℕ → ℕ → Counters
counters reads writes opens saves = record { reads = reads; writes = writes; opens = opens; saves = saves }

abbrev pub counters_of : {B R O : Type 0} → (B → ℕ) → (B → ℕ) → (O → ℕ) → (R → ℕ) → UnitValue B R O → Counters
counters_of reads_failed writes_failed opens_failed file_failures u =
    counters (reads_failed u.device) (writes_failed u.device) (opens_failed u.opener) (file_failures u.file.device)

-- which of them a choice tells of
pub record Failed : Type 0 where
  pub reads : Bool
  pub writes : Bool
  pub opens : Bool
  pub saves : Bool

abbrev pub failed_by : Choice → Failed
failed_by Fine = record { reads = false; writes = false; opens = false; saves = false }
failed_by ReadFailed = record { reads = true; writes = false; opens = false; saves = false }
failed_by (WriteFailed after) = record { reads = false; writes = true; opens = false; saves = false }
failed_by OpenFailed = record { reads = false; writes = false; opens = true; saves = false }
failed_by (SaveFailed after) = record { reads = false; writes = false; opens = false; saves = true }

-- each count rises exactly where the choice tells of that failure
pub record AreCounted (before now : Counters) (choice : Choice) : Type 0 where
  pub reads : Tells before.reads now.reads (IsTrue (not (failed_by choice).reads))
  pub writes : Tells before.writes now.writes (IsTrue (not (failed_by choice).writes))
  pub opens : Tells before.opens now.opens (IsTrue (not (failed_by choice).opens))
  pub saves : Tells before.saves now.saves (IsTrue (not (failed_by choice).saves))
