use Rattle.block_file.specs.Cut.{cut}
use Rattle.unit_control.specs.State.{state_of}
use Rattle.test_interleavings.proofs.readers.two_sessions_merge_beside_as_many_readers_as_there_may_be.Given as goal

abbrev pub ghosts-share : goal.ghosts-share
ghosts-share g a = record {
  book = λ place. a.new.posted.history.seen.book;
  table = λ place. a.new.posted.board.cell.table.shared.table_id;
  opening = λ place. state_of (λ d. cut d.count d.bytes.items) a.new.unit;
}
