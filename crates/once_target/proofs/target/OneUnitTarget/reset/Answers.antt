use Rattle.std.proofs.Common.{refl, arith}
use Rattle.once_target.proofs.Ready.{grows_reset_by, ready_reset_by, reset_late, reset_over}
use Rattle.once_target.proofs.target.OneUnitTarget.reset.Goals as goal

pub invariant_of-self : goal.invariant_of-self
invariant_of-self g c = (
  ready_reset_by _ _ _ _ c.reset.result c.self.invariant.0 refl c.reset.ensures,
  omega (arith, grows_reset_by _ _ _ _ c.reset.result c.reset.ensures, c.self.invariant.1),
)

pub returns : goal.returns
returns g c =
    rw (← c.self.view_is)
    (reset_over _ _ _ _ _ (reset_late c.self.inside.unit.control c.self.inside.at.session c.self.inside.at.serial
    c.self.invariant.0) c.reset.result c.reset.ensures)
