use Rattle.once_target.proofs.Owners.{twice, at_once}
use Rattle.once_target.proofs.attachment.step_by_owner.Goals as goal

pub returns-in-Moved : goal.returns-in-Moved
returns-in-Moved g c =
    twice _ _ _ _ _ _ _ c.in-Moved.ensures.0 c.in-Moved.ensures.2 c.step-in-Moved.ensures

pub returns-in_default : goal.returns-in_default
returns-in_default g c =
    at_once _ _ (record { unit = c.args.unit.now; at = c.args.at.now })
    (record { unit = c.step.new.unit; at = c.step.new.at })
    (record { unit = c.step.new.unit; at = c.step.new.at }) _ c.step.result c.in_default.not-Moved c.step.ensures
