use Rattle.std.proofs.Common.{◌++◌, ◌∷◌, [], length}
use Rattle.crossbeam_utils.specs.Seq.{cell_view}
use Rattle.status.specs.Views.{holder}
use Rattle.status.proofs.publisher.Publisher.begin.Given as goal

abbrev pub ghosts-become_as : goal.ghosts-become_as
ghosts-become_as g a =
    let v = cell_view a.keeper.now in
    record {
      view = holder g.J.Origin.from (v.seen ++ g.M.Plain.ask a.about.now ∷ [])
          (record { session = length v.seen; count = 0; commands = 0 });
    }
