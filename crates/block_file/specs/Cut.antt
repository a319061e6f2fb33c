-- Bytes as blocks of 512.
use Rattle.std.specs.Prelude.{◌≡◌, ℕ, zero, suc, ◌+◌, ◌*◌, ◌/◌, ◌≤◌, List, [], ◌∷◌, length, take, drop}
use Rattle.block_file.specs.declared.blocks.TheConstants.{BLOCK_LENGTH}

-- so many blocks that bytes make
abbrev pub cut : ℕ → List ℕ → List (List ℕ)
cut zero bytes = []
cut (suc n) bytes = take BLOCK_LENGTH bytes ∷ cut n (drop BLOCK_LENGTH bytes)

-- the blocks of a run
abbrev pub run_of : List ℕ → List (List ℕ)
run_of bytes = cut (length bytes / BLOCK_LENGTH) bytes

-- a run of this many bytes: whole blocks, from a place on, in a device of this size
pub record IsRun (size first len : ℕ) : Type 0 where
  pub whole : BLOCK_LENGTH * (len / BLOCK_LENGTH) ≡ len
  pub within : first + len / BLOCK_LENGTH ≤ size
