use Rattle.std.proofs.Common.{[]}
use Rattle.status.specs.Views.{publisher}
use Rattle.status.proofs.moves.open.Given as goal

abbrev pub ghosts-become_as : goal.ghosts-become_as
ghosts-become_as g a = record { view = publisher g.J.Origin.from [] }
