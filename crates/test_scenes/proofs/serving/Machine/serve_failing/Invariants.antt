use Rattle.unit_history.specs.Naming.{book_of, opening_of, table_of}
use Rattle.test_scenes.proofs.serving.Machine.serve_failing.Given as goal

abbrev pub ghosts-perform : goal.ghosts-perform
ghosts-perform g a = record {
  book = book_of a.new.items;
  table = table_of a.new.items;
  opening = opening_of (λ d. g.B.Blocks.contents d.inner) a.new.items;
}
