use Rattle.block_file.specs.Cut.{cut}
use Rattle.unit_history.specs.Naming.{book_of, opening_of, table_of}
use Rattle.test_controllers.proofs.runs.run.Given as goal

abbrev pub ghosts-tell : goal.ghosts-tell
ghosts-tell g a = record {
  book = book_of a.new.items;
  table = table_of a.new.items;
  opening = opening_of (λ d. cut d.count d.bytes.items) a.new.items;
}
