use Rattle.std.proofs.Common.{Some, None, refl, sym, ap}
use Rattle.session_rules.specs.{Causes.end_by_reject, Turn.faulty, Verdict.reason_of}
use Rattle.session_rules.specs.declared.verdict.Verdict.TheVariants.{Refused}
use Rattle.session_full_feature.{specs.Step.Step, specs.Step.said, proofs.Turns.turn_of, proofs.Turns.run_said, proofs.Turns.end_with}
use Rattle.session_full_feature.proofs.turn.fault_turn.Goals as goal

pub returns : goal.returns
returns g c =
    turn_of g.T.Target.leads _ _ _ _ _ _ _ _ _ _ _ (faulty c.args.fault c.args.bhs.now) (Refused (reason_of c.args.fault))
    (said c.on_fault-sending.result) None _ (Some (end_by_reject (reason_of c.args.fault) c.args.bhs.now)) refl
    c.on_fault-sending.ensures.on
    (run_said c.args.bhs.now c.on_fault-sending.result.pdus c.on_fault-sending.result.end _) refl c.fill.ensures.queued
    (sym (ap (λ (z : Step). end_with c.args.bhs.now z None) c.on_fault-sending.ensures.on.step_is))
