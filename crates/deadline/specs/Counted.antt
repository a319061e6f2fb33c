-- What a device counts of its calls that failed or came too late.
use Rattle.std.specs.Prelude.{◌≡◌, ◌+◌, ℕ, min, Result}
use Rattle.block_file.specs.Failures.{Counts, last_count}

-- a read: so many reads and so many writes and flushes had failed before, and so many have now
abbrev pub CountsRead : {T E : Type 0} → ℕ → ℕ → ℕ → ℕ → Result T E → Type 0
CountsRead reads writes reads_now writes_now result =
    Counts (min (reads + writes) last_count) (min (reads_now + writes_now) last_count) result
    × Counts (min reads last_count) (min reads_now last_count) result
    × (writes_now ≡ writes)

-- a write or a flush
abbrev pub CountsWrite : {T E : Type 0} → ℕ → ℕ → ℕ → ℕ → Result T E → Type 0
CountsWrite reads writes reads_now writes_now result =
    Counts (min (reads + writes) last_count) (min (reads_now + writes_now) last_count) result
    × (reads_now ≡ reads)
    × Counts (min writes last_count) (min writes_now last_count) result
