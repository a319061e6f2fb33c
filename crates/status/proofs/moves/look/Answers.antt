use Rattle.status.proofs.Steps.{looks_as}
use Rattle.status.proofs.moves.look.Goals as goal

pub load_as-requires-clause-rule : goal.load_as-requires-clause-rule
load_as-requires-clause-rule g c = looks_as g.P.Published.own g.P.Published.command g.P.Published.legal g.P.Published.rows _ _ _ c.requires.reads
