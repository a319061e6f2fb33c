use Rattle.std.proofs.lemmas.Grind.{common_steps}
use Rattle.std.proofs.Common.{◌≡◌, true, false, ap, sym, ◌∙◌, arith}
use Rattle.session_full_feature.{specs.Step.said, specs.Counters.Counters, proofs.Receiving.can_take, proofs.Receiving.rejected_data}
use Rattle.session_full_feature.proofs.session.Session.on_data_out.Goals as goal

pub take_data-requires : goal.take_data-requires
take_data-requires c =
    can_take _ c.in-Some.at c.args.header c.args.bytes.now _
    (ap (λ (s : Counters). s.standing.collecting) c.self.view_is) c.in-Some.ensures c.at.result.now c.at.ensures
    (c.continues.ensures.0 c.if-continues.true)

pub returns-else-continues-clause-on : goal.returns-else-continues-clause-on
returns-else-continues-clause-on c =
    rejected_data _ _ c.in-Some.at c.args.header c.args.bytes.now _ (said c.reject.result)
    (ap (λ (s : Counters). s.standing.collecting) c.self.view_is) c.in-Some.ensures c.at.result.now c.at.ensures
    (λ k. let e : true ≡ false = sym (c.continues.ensures.1 k) ∙ c.if-continues.false in cc) c.reject.ensures.on

pub at-requires : goal.at-requires
at-requires c = grind (arith, common_steps) steps 4000000
