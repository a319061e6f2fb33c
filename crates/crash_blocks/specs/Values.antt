-- Which value of a block a crash leaves.
use Rattle.std.specs.Prelude.{◌≡◌, ℕ, ◌+◌, ◌-◌, ◌%◌, ◌<◌, ◌≤◌, ◌&&◌, nat_le, nat_lt, if◌then◌else◌, List, [], ◌∷◌, ◌++◌, length}
use Rattle.crash_blocks.specs.declared.event.Event.{Event}
use Rattle.crash_blocks.specs.declared.event.Event.TheVariants.{Write, Flush}
use Rattle.crash_blocks.specs.declared.pick.Past.{Past}
use Rattle.crash_blocks.specs.declared.pick.Pick.{Pick}
use Rattle.crash_blocks.specs.declared.pick.Pick.TheVariants.{Oldest, Newest, Rotated}
use Rattle.block_file.specs.Cut.{run_of}
use Rattle.block_file.specs.Disk.{block_at}
use Rattle.crash_blocks.specs.Events.{contents_of}

-- the block that a write has for a place, where it has one
abbrev pub written_at : ℕ → List (List ℕ) → ℕ → List (List ℕ)
written_at first blocks k =
    if nat_le first k && nat_lt k (first + length blocks) then block_at blocks (k - first) ∷ [] else []

-- the values that a block had since the last flush, the oldest first: what that made last, and what each write had for it
abbrev pub values_of : List (List ℕ) → List Event → ℕ → List (List ℕ)
values_of start [] k = block_at start k ∷ []
values_of start (Write first bytes ∷ older) k = values_of start older k ++ written_at first (run_of bytes.items) k
values_of start (Flush ∷ older) k = block_at (contents_of start older) k ∷ []

-- which of so many values of a block, counted from 0
abbrev pub place_of : Pick → ℕ → ℕ → ℕ
place_of Oldest k count = 0
place_of Newest k count = count - 1
place_of (Rotated turn) k count = (k + turn) % count

abbrev pub picked_of : Pick → List (List ℕ) → ℕ → List ℕ
picked_of pick values k = block_at values (place_of pick k (length values))

-- the disk has the value of each block that is picked
abbrev pub IsPicked : Pick → ℕ → List (List ℕ) → List Event → List (List ℕ) → Type 0
IsPicked pick size start events disk = (k : ℕ) → k < size → block_at disk k ≡ picked_of pick (values_of start events k) k

-- Behind some events a block holds this, was written so often since the last flush, and one of its values was found: this
-- is known while the events are gone through.
pub record IsPast (block : List ℕ) (values : List (List ℕ)) (wanted : ℕ) (past : Past) : Type 0 where
  pub holds : past.holds ≡ block
  pub written : past.written + 1 ≡ length values
  pub picked : wanted ≤ past.written → past.picked ≡ block_at values wanted

abbrev pub HasPast : List (List ℕ) → List Event → ℕ → ℕ → Past → Type 0
HasPast start events k wanted past = IsPast (block_at (contents_of start events) k) (values_of start events k) wanted past
