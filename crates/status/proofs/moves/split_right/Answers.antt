use Rattle.status.proofs.Steps.{forks_right_as}
use Rattle.status.proofs.moves.split_right.Goals as goal

pub split-requires-clause-rule : goal.split-requires-clause-rule
split-requires-clause-rule g c = forks_right_as g.P.Published.own g.P.Published.command g.P.Published.legal g.P.Published.rows _ _ _ c.requires.keeper
