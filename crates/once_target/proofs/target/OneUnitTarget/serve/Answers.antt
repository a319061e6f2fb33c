use Rattle.once_target.proofs.Ready.{answered_over, fits_answered, gone_late, ready_answered}
use Rattle.once_target.proofs.target.OneUnitTarget.serve.Goals as goal

pub invariant_of-self : goal.invariant_of-self
invariant_of-self g c = (
  ready_answered _ _ _ _ _ _ c.answer.result c.self.invariant.0 c.answer.ensures,
  fits_answered _ _ _ _ _ _ c.answer.result c.self.invariant.1 c.answer.ensures,
)

pub returns : goal.returns
returns g c =
    rw (← c.self.view_is)
    (answered_over _ _ _ _ _ _
    (gone_late c.self.inside.unit.control c.self.inside.at.session c.self.inside.at.serial c.self.invariant.0) _
    c.answer.result c.answer.ensures)
