use Rattle.std.proofs.Common.{arith, sym, ap, refl, ◌∙◌}
use Rattle.login.specs.Refusal.{is_too_long}
use Rattle.login.specs.Request.{Stopped}
use Rattle.login.specs.declared.status.LoginRefusal.TheVariants.{Refused}
use Rattle.login.proofs.Turns.{not_long, judged, answer_stopped, state_stopped, restored, answer_passed, state_passed}
use Rattle.login.proofs.negotiation.Negotiation.request.Goals as goal

pub proceed-requires-clause-fits : goal.proceed-requires-clause-fits
proceed-requires-clause-fits c =
    ap (is_too_long c.self.inside.said.items) (sym c.deref.ensures.value)
    ∙ not_long _ c.args.flags c.deref.result.now (sym c.refusal.ensures ∙ c.in-None.is)

pub returns-in-Some-Refused-clause-answer : goal.returns-in-Some-Refused-clause-answer
returns-in-Some-Refused-clause-answer c =
    let h = judged _ _ c.args.flags c.put_bytes.new.out.items c.deref.result.now c.args.text.now c.refusal.result c.self.view_is
    c.put_bytes.ensures.put c.deref.ensures.value c.refusal.ensures in
    ap (λ status. Stopped (Refused status)) c.in-Some-Refused.status-is
    ∙ ap Stopped (sym c.in-Some-Refused.field-0-is) ∙ answer_stopped _ _ _ _ (sym h ∙ c.in-Some-Refused.is)

pub returns-in-Some-Refused-clause-state : goal.returns-in-Some-Refused-clause-state
returns-in-Some-Refused-clause-state c =
    let h = judged _ _ c.args.flags c.put_bytes.new.out.items c.deref.result.now c.args.text.now c.refusal.result c.self.view_is
    c.put_bytes.ensures.put c.deref.ensures.value c.refusal.ensures in
    restored _ _ c.self.inside.run_text.items c.args.text.now _ _ c.len-before.result c.self.view_is refl
    c.put_bytes.ensures.put (omega arith) c.truncate.ensures.items
    ∙ state_stopped _ _ _ _ (sym h ∙ c.in-Some-Refused.is)

pub returns-in-Some-NamesSession-clause-answer : goal.returns-in-Some-NamesSession-clause-answer
returns-in-Some-NamesSession-clause-answer c =
    let h = judged _ _ c.args.flags c.put_bytes.new.out.items c.deref.result.now c.args.text.now c.refusal.result c.self.view_is
    c.put_bytes.ensures.put c.deref.ensures.value c.refusal.ensures in
    ap Stopped (sym c.in-Some-NamesSession.field-0-is) ∙ answer_stopped _ _ _ _ (sym h ∙ c.in-Some-NamesSession.is)

pub returns-in-Some-NamesSession-clause-state : goal.returns-in-Some-NamesSession-clause-state
returns-in-Some-NamesSession-clause-state c =
    let h = judged _ _ c.args.flags c.put_bytes.new.out.items c.deref.result.now c.args.text.now c.refusal.result c.self.view_is
    c.put_bytes.ensures.put c.deref.ensures.value c.refusal.ensures in
    restored _ _ c.self.inside.run_text.items c.args.text.now _ _ c.len-before.result c.self.view_is refl
    c.put_bytes.ensures.put (omega arith) c.truncate-in-Some-NamesSession.ensures.items
    ∙ state_stopped _ _ _ _ (sym h ∙ c.in-Some-NamesSession.is)

pub returns-in-None-clause-answer : goal.returns-in-None-clause-answer
returns-in-None-clause-answer c =
    let h = judged _ _ c.args.flags c.put_bytes.new.out.items c.deref.result.now c.args.text.now c.refusal.result c.self.view_is
    c.put_bytes.ensures.put c.deref.ensures.value c.refusal.ensures in
    answer_passed _ _ c.args.flags c.put_bytes.new.out.items c.args.text.now _ c.self.view_is
    c.put_bytes.ensures.put (sym h ∙ c.in-None.is) c.proceed.ensures.answer

pub returns-in-None-clause-state : goal.returns-in-None-clause-state
returns-in-None-clause-state c =
    let h = judged _ _ c.args.flags c.put_bytes.new.out.items c.deref.result.now c.args.text.now c.refusal.result c.self.view_is
    c.put_bytes.ensures.put c.deref.ensures.value c.refusal.ensures in
    state_passed _ _ _ c.args.flags c.put_bytes.new.out.items c.args.text.now c.self.view_is
    c.put_bytes.ensures.put (sym h ∙ c.in-None.is) c.proceed.ensures.state
