-- What a device has done since it was made, the newest first, and what a crash then may leave.
use Rattle.std.specs.Prelude.{◌≡◌, ◌⊎◌, ℕ, ◌+◌, ◌≤◌, Bool, true, ◌&&◌, nat_le, List, [], ◌∷◌, length, take, reverse, ◌/◌}
use Rattle.crash_blocks.specs.declared.event.Event.{Event}
use Rattle.crash_blocks.specs.declared.event.Event.TheVariants.{Write, Flush}
use Rattle.block_file.specs.Cut.{run_of}
use Rattle.block_file.specs.Disk.{block_at, written, IsNewAt, MayLeave}

abbrev pub contents_of : List (List ℕ) → List Event → List (List ℕ)
contents_of start [] = start
contents_of start (Write first bytes ∷ older) = written (contents_of start older) first (run_of bytes.items)
contents_of start (Flush ∷ older) = contents_of start older

-- each value that a block had since the last flush
abbrev pub Held : List (List ℕ) → List Event → ℕ → List ℕ → Type 0
Held start [] k value = value ≡ block_at start k
Held start (Write first bytes ∷ older) k value = Held start older k value ⊎ IsNewAt first (run_of bytes.items) k value
Held start (Flush ∷ older) k value = Held start older k value × (value ≡ block_at (contents_of start older) k)

-- a crash when some number of calls from t on had been made
abbrev pub LeftSince : ℕ → List (List ℕ) → List Event → ℕ → List (List ℕ) → Type 0
LeftSince size start events t disk = (n : ℕ) × (t ≤ n) × (n ≤ length events) × MayLeave size (Held start (reverse (take n events))) disk

-- each write lies in a device of this size
abbrev pub runs_fit : ℕ → List Event → Bool
runs_fit size [] = true
runs_fit size (Write first bytes ∷ older) = nat_le (first + length bytes.items / 512) size && runs_fit size older
runs_fit size (Flush ∷ older) = runs_fit size older

-- the write, if there is memory for it, is one of these bytes
abbrev pub IsWrite : Event → ℕ → List ℕ → Type 0
IsWrite (Write at held) first bytes = (at ≡ first) × (held.items ≡ bytes)
IsWrite Flush first bytes = ⊥
