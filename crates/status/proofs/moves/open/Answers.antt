use Rattle.std.proofs.Common.{◌∙◌, ap}
use Rattle.status.specs.Views.{words_of}
use Rattle.status.proofs.Steps.{opens_as}
use Rattle.status.proofs.moves.open.Goals as goal

pub become_as-requires-clause-rule : goal.become_as-requires-clause-rule
become_as-requires-clause-rule g c =
    opens_as g.P.Published.own g.P.Published.command g.P.Published.legal g.P.Published.rows _ _ _ _ c.requires.keeper c.requires.legal
    (c.words.ensures ∙ ap words_of c.requires.row)
