-- The data of a COMPARE AND WRITE of so many blocks: as many to compare the range with, and behind them as many to
-- write (SBC-3, COMPARE AND WRITE command: the compare instance and the write instance).
use Rattle.std.specs.Prelude.{ℕ, ◌*◌, List, take, drop}
use Rattle.block_file.specs.declared.blocks.TheConstants.{BLOCK_LENGTH}
use Rattle.block_file.specs.Cut.{cut}

abbrev pub compare_instance : ℕ → List ℕ → List ℕ
compare_instance blocks bytes = take (BLOCK_LENGTH * blocks) bytes

abbrev pub write_instance : ℕ → List ℕ → List (List ℕ)
write_instance blocks bytes = cut blocks (drop (BLOCK_LENGTH * blocks) bytes)
