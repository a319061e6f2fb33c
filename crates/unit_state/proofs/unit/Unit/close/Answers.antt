use Rattle.unit_state.proofs.Steps.{restart_closed}
use Rattle.unit_state.proofs.unit.Unit.close.Goals as goal

pub returns-clause-restart : goal.returns-clause-restart
returns-clause-restart g c =
    restart_closed _ g.F.Blocks.size g.F.Blocks.may_hold _ _ _ c.close.ensures c.self.view_is c.self.invariant.1
