-- A fuse before a device: it passes some calls on, and fails each one after them, or only some.
use Rattle.std.specs.Prelude.{◌≡◌, ℕ, zero, suc, ◌+◌, ◌-◌, ◌<◌, Bool, true, false, List, take, IsErr, Result, min}
use Rattle.std.specs.Prelude.{Option, Some, None}
use Rattle.block_file.specs.Cut.{run_of}
use Rattle.block_file.specs.Disk.{written}
use Rattle.block_file.specs.Failures.{Counts, last_count}

-- the device, how many calls are yet to be passed on, how many of those behind them are to fail (None: all), how many
-- blocks of the first of these are written where it is a write, and how many reads and how many writes the fuse failed
pub record Fuse (B : Type 0) : Type 0 where
  pub inner : B
  pub left : ℕ
  pub fails : Option ℕ
  pub lands : ℕ
  pub failed_reads : ℕ
  pub failed_writes : ℕ

-- no call was made yet
abbrev pub intact : {B : Type 0} → B → ℕ → ℕ → Fuse B
intact inner calls lands =
    record { inner = inner; left = calls; fails = None; lands = lands; failed_reads = 0; failed_writes = 0 }

-- so many calls are to fail, and those behind them are passed on
abbrev pub windowed : {B : Type 0} → B → ℕ → ℕ → Fuse B
windowed inner calls fails =
    record { inner = inner; left = calls; fails = Some fails; lands = 0; failed_reads = 0; failed_writes = 0 }

-- whether the next call is passed on
abbrev pub passes_by : ℕ → Option ℕ → Bool
passes_by (suc left) fails = true
passes_by zero None = false
passes_by zero (Some zero) = true
passes_by zero (Some (suc fails)) = false

abbrev pub passes : {B : Type 0} → Fuse B → Bool
passes fuse = passes_by fuse.left fuse.fails

-- one call fewer is to fail
abbrev pub one_fewer : Option ℕ → Option ℕ
one_fewer None = None
one_fewer (Some fails) = Some (fails - 1)

-- the failures of the device, and those of the fuse
abbrev pub all_failures : {B : Type 0} → (B → ℕ) → Fuse B → ℕ
all_failures failures fuse = min (failures fuse.inner + (fuse.failed_reads + fuse.failed_writes)) last_count

abbrev pub all_reads_failed : {B : Type 0} → (B → ℕ) → Fuse B → ℕ
all_reads_failed reads_failed fuse = min (reads_failed fuse.inner + fuse.failed_reads) last_count

abbrev pub all_writes_failed : {B : Type 0} → (B → ℕ) → Fuse B → ℕ
all_writes_failed writes_failed fuse = min (writes_failed fuse.inner + fuse.failed_writes) last_count

-- a call that is passed on: it is one of those left, or lies behind those that fail, and it fails where the device fails
pub record Passes {B T E : Type 0} (failures : B → ℕ) (old new : Fuse B) (result : Result T E) : Type 0 where
  pub left : new.left ≡ old.left - 1
  pub fails : new.fails ≡ old.fails
  pub lands : new.lands ≡ old.lands
  pub failed_reads : new.failed_reads ≡ old.failed_reads
  pub failed_writes : new.failed_writes ≡ old.failed_writes
  pub counts : Counts (failures old.inner) (failures new.inner) result

-- a call that the fuse fails, where none is left: of no later one any block is written while it fails
pub record Fails {B T E : Type 0} (old new : Fuse B) (result : Result T E) : Type 0 where
  pub err : IsErr result
  pub left : new.left ≡ 0
  pub fails : new.fails ≡ one_fewer old.fails
  pub lands : new.lands ≡ 0

-- and counts, as a read
pub record FailsRead {B T E : Type 0} (old new : Fuse B) (result : Result T E) : Type 0 where
  pub fails : Fails old new result
  pub failed_reads : new.failed_reads ≡ min (old.failed_reads + 1) last_count
  pub failed_writes : new.failed_writes ≡ old.failed_writes

-- or as a write
pub record FailsWrite {B T E : Type 0} (old new : Fuse B) (result : Result T E) : Type 0 where
  pub fails : Fails old new result
  pub failed_reads : new.failed_reads ≡ old.failed_reads
  pub failed_writes : new.failed_writes ≡ min (old.failed_writes + 1) last_count

-- so many blocks of the run are written, unless the device failed
abbrev pub Lands : {B : Type 0} → (B → ℕ) → (B → List (List ℕ)) → B → B → ℕ → ℕ → List ℕ → Type 0
Lands failures contents old new lands first bytes =
    failures old < last_count → failures new ≡ failures old
    → contents new ≡ written (contents old) first (take lands (run_of bytes))
