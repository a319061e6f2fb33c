use Rattle.session_units.specs.Late.{late_at, late_of}
use Rattle.session_units.proofs.AsTold.{has_done_as_told}
use Rattle.session_units.proofs.laws.what_was_told_stands_in_one_history.Goals as goal

pub returns : goal.returns
returns g c = λ s unit nexus done history is.
    has_done_as_told g.U.LogicalUnits.claims (late_at (late_of g.G.Gate.is_late g.G.Gate.lasts) unit) s nexus done history is
