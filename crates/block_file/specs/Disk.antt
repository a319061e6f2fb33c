-- A disk as a list of blocks: what a write changes of it, and what a crash may leave (SBC-3, logical blocks and
-- caches).
use Rattle.std.specs.Prelude.{◌≡◌, ◌⊎◌, ◌↔◌, ℕ, ◌+◌, ◌-◌, ◌<◌, ◌≤◌, List, [], ◌++◌, length, take, drop, flat_map, slice_index_or}

-- the block at a place
abbrev pub block_at : List (List ℕ) → ℕ → List ℕ
block_at disk k = slice_index_or disk k []

-- the disk with these blocks from a place on
abbrev pub written : List (List ℕ) → ℕ → List (List ℕ) → List (List ℕ)
written disk first blocks = take first disk ++ blocks ++ drop (first + length blocks) disk

-- the bytes of a range of blocks
abbrev pub range_bytes : List (List ℕ) → ℕ → ℕ → List ℕ
range_bytes disk first n = flat_map (λ b. b) (take n (drop first disk))

-- the value is that of the block that is written at this place
pub record IsNewAt (first : ℕ) (blocks : List (List ℕ)) (k : ℕ) (value : List ℕ) : Type 0 where
  pub from : first ≤ k
  pub below : k < first + length blocks
  pub is : value ≡ block_at blocks (k - first)

-- a write that may have stopped anywhere: each block is the old one or, in the range, the new one
pub record Between (old : List (List ℕ)) (first : ℕ) (blocks after : List (List ℕ)) : Type 0 where
  pub as_long : length after ≡ length old
  pub each : (k : ℕ) → (block_at after k ≡ block_at old k) ⊎ IsNewAt first blocks k (block_at after k)

-- What a block may hold after a crash, before a call and after it. Just what it did:
abbrev pub HoldsTheSame : (ℕ → List ℕ → Type 0) → (ℕ → List ℕ → Type 0) → Type 0
HoldsTheSame old new = (k : ℕ) (value : List ℕ) → new k value ↔ old k value

-- no more than it did:
abbrev pub NoMore : (ℕ → List ℕ → Type 0) → (ℕ → List ℕ → Type 0) → Type 0
NoMore old new = (k : ℕ) (value : List ℕ) → new k value → old k value

-- no more than it did, or the block that is written there:
abbrev pub or_new : ℕ → List (List ℕ) → (ℕ → List ℕ → Type 0) → ℕ → List ℕ → Type 0
or_new first blocks may_hold k value = may_hold k value ⊎ IsNewAt first blocks k value

abbrev pub Adds : ℕ → List (List ℕ) → (ℕ → List ℕ → Type 0) → (ℕ → List ℕ → Type 0) → Type 0
Adds first blocks old new = NoMore (or_new first blocks old) new

-- what is there alone:
abbrev pub Only : List (List ℕ) → (ℕ → List ℕ → Type 0) → Type 0
Only disk may_hold = (k : ℕ) (value : List ℕ) → may_hold k value → value ≡ block_at disk k

-- a crash may leave this disk: as many blocks, each one that its place may hold
pub record MayLeave (size : ℕ) (may_hold : ℕ → List ℕ → Type 0) (disk : List (List ℕ)) : Type 0 where
  pub as_long : length disk ≡ size
  pub each : (k : ℕ) → k < size → may_hold k (block_at disk k)
