use Rattle.std.proofs.Common.{[]}
use Rattle.unit_history.specs.Naming.{book_of, opening_of, table_of}
use Rattle.test_scenes.proofs.serving.Machine.run.Given as goal

abbrev pub ghosts-perform : goal.ghosts-perform
ghosts-perform g a = record {
  book = book_of a.new.items;
  table = table_of a.new.items;
  opening = opening_of (λ d. []) a.new.items;
}
