-- What the blocks are that a device gives.
use Rattle.std.specs.Prelude.{◌⊎◌, ◌<◌, ◌*◌, ℕ, List, IsTrue}
use Rattle.block_file.specs.declared.blocks.TheConstants.{BLOCK_LENGTH}
use Rattle.block_file.specs.Failures.{last_count}
use Rattle.disk_preparer.specs.declared.Node.{Node}
use Rattle.disk_preparer.specs.Beside.{was_read}

-- These blocks were read of a file: by a call of its device, or by one beside it that began when so many writes of the device had ended,
-- as many as have now. So none of its writes ended since.
abbrev pub WereRead : (Node → ℕ → List ℕ → Type 0) → Node → ℕ → ℕ → List ℕ → Type 0
WereRead has_read node first writes blocks =
    has_read node (BLOCK_LENGTH * first) blocks ⊎ ((writes < last_count) × IsTrue (was_read node first writes blocks))
