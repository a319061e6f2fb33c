use Rattle.status.proofs.Steps.{learns_as}
use Rattle.status.proofs.moves.audit.Goals as goal

pub load_as-requires-clause-rule : goal.load_as-requires-clause-rule
load_as-requires-clause-rule g c = learns_as g.P.Published.own g.P.Published.command g.P.Published.legal g.P.Published.rows _ _ _ c.requires.keeper
