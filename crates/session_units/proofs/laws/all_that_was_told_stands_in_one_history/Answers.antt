use Rattle.session_units.specs.Late.{late_at, late_of}
use Rattle.session_units.proofs.AllTold.{all_told}
use Rattle.session_units.proofs.laws.all_that_was_told_stands_in_one_history.Goals as goal

pub returns : goal.returns
returns g c = λ s unit leavers two.
    all_told g.U.LogicalUnits.claims (late_at (late_of g.G.Gate.is_late g.G.Gate.lasts) unit) s leavers two
