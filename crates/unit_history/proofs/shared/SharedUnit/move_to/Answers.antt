use Rattle.unit_history.proofs.Ends.{has_moved, has_stayed}
use Rattle.unit_entries.specs.Devices.{devices}
use Rattle.unit_history.proofs.shared.SharedUnit.move_to.Goals as goal

pub returns-clause-moved : goal.returns-clause-moved
returns-clause-moved g c =
    has_moved (devices g.B.Blocks g.F.Blocks g.O.Opener) (g.N.ArrayNaming.opening g.row.U) c.args.list.now c.move_to.result.0.1
    c.move_to.result.1 c.move_to.ensures.legal.1 c.move_to.ensures.moved c.move_to.ensures.handed_over

pub returns-clause-stays : goal.returns-clause-stays
returns-clause-stays g c =
    has_stayed (devices g.B.Blocks g.F.Blocks g.O.Opener) (g.N.ArrayNaming.opening g.row.U) c.args.list.now c.move_to.result.0.1
    c.move_to.result.1 c.move_to.ensures.legal.1 c.move_to.ensures.stays c.move_to.ensures.not_handed_over
