use Rattle.block_file.proofs.ReadBack.{written_is_read}
use Rattle.block_file.proofs.laws.a_range_that_was_written_is_read.Goals as goal

pub returns : goal.returns
returns c = written_is_read
