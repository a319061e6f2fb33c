use Rattle.status.proofs.Steps.{merges_right_as}
use Rattle.status.proofs.moves.join_right.Goals as goal

pub join-requires-clause-rule : goal.join-requires-clause-rule
join-requires-clause-rule g c = merges_right_as g.P.Published.own g.P.Published.command g.P.Published.legal g.P.Published.rows _ _ _ _ _ c.requires.keeper c.requires.token
