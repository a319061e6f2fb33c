use Rattle.block_file.specs.Cut.{cut}
use Rattle.unit_history.specs.Naming.{book_of, opening_of, table_of}
use Rattle.test_array.proofs.quits.quit_closes_both_desks_and_flushes_each_unit.Given as goal

abbrev pub ghosts-are_left : goal.ghosts-are_left
ghosts-are_left g a = record {
  book = book_of a.new.items;
  table = table_of a.new.items;
  opening = opening_of (λ d. cut d.inner.count d.inner.bytes.items) a.new.items;
}
