use Rattle.std.proofs.Common.{refl, ◌∙◌}
use Rattle.aptpl_file.proofs.LastsLaws.{each_outcome_holds}
use Rattle.unit_state.proofs.Steps.{answered_step, step_seen, lacking_seen, restart_seen, restarts, unreached_seen}
use Rattle.unit_control.specs.Medium.{work_asked}
use Rattle.unit_control.specs.Refusal.{request}
use Rattle.unit_state.proofs.PowerLoss.{as_before, no_stop, same_seen, step_left, stop_seen}
use Rattle.unit_state.proofs.unit.Unit.step.Goals as goal

pub returns-clause-entry : goal.returns-clause-entry
returns-clause-entry g c =
    step_seen _ g.B.Blocks.contents _ _ _ _ _ c.self.view_is
    (answered_step _ _ _ _ _ _ _ _ _ _ c.in-At.ensures.0 c.in-At.ensures.1 c.in-Ok.ensures.replied.answered refl
    c.count_command.ensures.counted)

pub returns-in-Err-clause-memory : goal.returns-in-Err-clause-memory
returns-in-Err-clause-memory g c = λ h. lacking_seen _ _ _ _ c.self.view_is c.in-Err.ensures.err

pub returns-in-Err-clause-unchanged : goal.returns-in-Err-clause-unchanged
returns-in-Err-clause-unchanged g c = c.in-Err.ensures.err.unchanged ∙ c.self.view_is

pub returns-clause-unreached : goal.returns-clause-unreached
returns-clause-unreached g c = unreached_seen _ _ _ _ c.self.view_is c.in-Ok.ensures.leaves.unreached

pub returns-in-Gone-clause-restart : goal.returns-in-Gone-clause-restart
returns-in-Gone-clause-restart g c = restart_seen _ g.F.Blocks.size g.F.Blocks.may_hold _ _ c.self.view_is c.self.invariant.1

pub returns-in-Moved-clause-restart : goal.returns-in-Moved-clause-restart
returns-in-Moved-clause-restart g c =
    restart_seen _ g.F.Blocks.size g.F.Blocks.may_hold _ _ c.self.view_is c.self.invariant.1

pub returns-in-Err-clause-restart : goal.returns-in-Err-clause-restart
returns-in-Err-clause-restart g c =
    λ h. each_outcome_holds g.F.Blocks.size g.F.Blocks.may_hold _ _ (c.in-Err.ensures.leaves.kept h (c.self.invariant.1 h))

pub returns-clause-restart : goal.returns-clause-restart
returns-clause-restart g c =
    λ h. restarts g.F.Blocks.size g.F.Blocks.may_hold _ _ _
    (c.in-Ok.ensures.leaves.kept h (c.self.invariant.1 h)) c.count_command.ensures.lasting

pub returns-clause-left : goal.returns-clause-left
returns-clause-left g c =
    step_left g.B.Blocks.claims_moments g.B.Blocks.moment g.B.Blocks.left_since g.B.Blocks.size g.B.Blocks.may_hold _ g.B.Blocks.contents _ _
    (request c.args.session c.args.asked c.args.bytes.now) (work_asked c.args.asked c.args.bytes.now) c.in-Ok.reply _ _ _
    c.self.view_is c.count_command.ensures.lasting c.in-Ok.ensures.replied.left

pub returns-in-Gone-clause-same : goal.returns-in-Gone-clause-same
returns-in-Gone-clause-same g c = λ none h. as_before g.B.Blocks.claims_moments g.B.Blocks.moment g.B.Blocks.left_since g.B.Blocks.size g.B.Blocks.may_hold _ _ refl

pub returns-in-Moved-clause-same : goal.returns-in-Moved-clause-same
returns-in-Moved-clause-same g c = λ none h. as_before g.B.Blocks.claims_moments g.B.Blocks.moment g.B.Blocks.left_since g.B.Blocks.size g.B.Blocks.may_hold _ _ refl

pub returns-in-Err-clause-same : goal.returns-in-Err-clause-same
returns-in-Err-clause-same g c = same_seen g.B.Blocks.claims_moments g.B.Blocks.moment g.B.Blocks.left_since g.B.Blocks.size g.B.Blocks.may_hold _ _ _ _ _ c.self.view_is c.in-Err.ensures.leaves.same

pub returns-clause-same : goal.returns-clause-same
returns-clause-same g c = same_seen g.B.Blocks.claims_moments g.B.Blocks.moment g.B.Blocks.left_since g.B.Blocks.size g.B.Blocks.may_hold _ _ _ _ _ c.self.view_is c.in-Ok.ensures.leaves.same

pub returns-in-Gone-clause-stop : goal.returns-in-Gone-clause-stop
returns-in-Gone-clause-stop g c = λ h m. no_stop g.F.Blocks.moment g.F.Blocks.left_since _ _ _ refl

pub returns-in-Moved-clause-stop : goal.returns-in-Moved-clause-stop
returns-in-Moved-clause-stop g c = λ h m. no_stop g.F.Blocks.moment g.F.Blocks.left_since _ _ _ refl

pub returns-in-Err-clause-stop : goal.returns-in-Err-clause-stop
returns-in-Err-clause-stop g c = stop_seen _ _ g.F.Blocks.moment g.F.Blocks.left_since g.F.Blocks.size g.F.Blocks.may_hold _ _ _ _ c.self.view_is c.in-Err.ensures.leaves.stop c.self.invariant.1

pub returns-clause-stop : goal.returns-clause-stop
returns-clause-stop g c = stop_seen _ _ g.F.Blocks.moment g.F.Blocks.left_since g.F.Blocks.size g.F.Blocks.may_hold _ _ _ _ c.self.view_is c.in-Ok.ensures.leaves.stop c.self.invariant.1
