use Rattle.std.proofs.Common.{ℕ, List, Some, None, refl, ap, subst, ◌∙◌}
use Rattle.session_full_feature.specs.declared.actions.Actions.TheVariants.{Send, Call}
use Rattle.session_full_feature.specs.declared.actions.Call.TheVariants.{Serve, Reset}
use Rattle.session_full_feature.specs.Step.{call_data, end_of, step_of}
use Rattle.session_full_feature.proofs.Turns.{turn_of, run_so, run_said, end_said}
use Rattle.session_rules.specs.{Asking.served, Asking.reset, Turn.pdu}
use Rattle.session_full_feature.proofs.turn.feature_turn.Goals as goal

pub returns-in-Send-clause-turn : goal.returns-in-Send-clause-turn
returns-in-Send-clause-turn g c =
    let x = c.in-Send.sending in
    let on = rw c.in-Send.is at c.on_pdu-actions.ensures.on in
    turn_of g.T.Target.leads _ _ _ _ _ _ _ _ _ _ _ (pdu c.args.bhs.now c.args.pdu.now.header c.args.pdu.now.data.now)
    on.verdict (step_of (Send x)) None _ _ on.judged on.made
    (run_said c.args.bhs.now x.pdus x.end _) refl c.fill.ensures.queued
    (c.end_behind.ensures ∙ end_said c.args.bhs.now x.pdus x.end)

pub returns-in-Serve-clause-turn : goal.returns-in-Serve-clause-turn
returns-in-Serve-clause-turn g c =
    let call = c.in-Serve.call in
    let x = c.on_answer-sending.result in
    let k = c.on_answer-sending.ensures.answered in
    let on = rw (c.in-Call.is ∙ ap Call c.in-Serve.is) at c.on_pdu-actions.ensures.on in
    turn_of g.T.Target.leads _ _ _ _ _ _ _ _ _ _ _ (pdu c.args.bhs.now c.args.pdu.now.header c.args.pdu.now.data.now)
    on.verdict (step_of (Call (Serve call))) (Some (served call.unit call.asked (call_data call.bytes) c.serve-answer.result))
    _ _ on.judged on.made
    (c.serve-answer.result, run_so _ c.args.bhs.now x.pdus x.end _ _ _ _ k.step_is (c.keep.ensures ∙ k.next_is))
    (rw c.reuse.ensures (subst (λ (b : List ℕ). g.T.Target.leads c.args.target.now
    (served call.unit call.asked b c.serve-answer.result) c.serve-answer.new.self) c.bytes.ensures c.serve-answer.ensures))
    c.fill-in-Serve.ensures.queued (c.end_behind-end.ensures ∙ ap (end_of c.args.bhs.now) k.step_is)

pub returns-in-Reset-clause-turn : goal.returns-in-Reset-clause-turn
returns-in-Reset-clause-turn g c =
    let call = c.in-Reset.call in
    let x = c.on_reset-sending.result in
    let k = c.on_reset-sending.ensures.on in
    let on = rw (c.in-Call.is ∙ ap Call c.in-Reset.is) at c.on_pdu-actions.ensures.on in
    turn_of g.T.Target.leads _ _ _ _ _ _ _ _ _ _ _ (pdu c.args.bhs.now c.args.pdu.now.header c.args.pdu.now.data.now)
    on.verdict (step_of (Call (Reset call))) (Some (reset call.unit c.reset-answer.result)) _ _ on.judged on.made
    (c.reset-answer.result, run_so _ c.args.bhs.now x.pdus x.end _ _ _ _ k.step_is k.next_is)
    c.reset-answer.ensures c.fill-in-Reset.ensures.queued
    (c.end_behind-in-Reset.ensures ∙ ap (end_of c.args.bhs.now) k.step_is)
