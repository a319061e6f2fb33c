use Rattle.std.proofs.Common.{◌+◌, ◌++◌, ◌∷◌, []}
use Rattle.crossbeam_utils.specs.Seq.{cell_view}
use Rattle.status.specs.Views.{holder}
use Rattle.status.proofs.moves.publish_own.Given as goal

abbrev pub ghosts-become_as : goal.ghosts-become_as
ghosts-become_as g a =
    let v = cell_view a.keeper.now in
    let e = g.M.Plain.ask a.about.now in
    record {
      view = holder g.J.Origin.from (v.seen ++ e ∷ [])
          (record { session = v.session; count = v.count + 1; commands = v.commands + g.P.Published.command v.session e });
    }
