use Rattle.std.proofs.Common.{rules, ap, ◌∙◌}
use Rattle.timed_calls.proofs.Handed.{may_hand_over, may_put, out_one, carries}
use Rattle.timed_calls.proofs.handing.AskingEnd.hand_over.Goals as goal

pub exchange-requires : goal.exchange-requires
exchange-requires g c =
    let end = c.args.self.now in (search rules, may_put _ _ (out_one _ _ end.slot c.requires).1)

pub swap-requires : goal.swap-requires
swap-requires g c =
    let end = c.args.self.now in
    let now = c.exchange.ensures.3 in (
      search rules,
      search rules,
      may_hand_over _ _ _ _ _ c.deref.result.now.sized.1 _ (ap (λ m. m.0.role) now ∙ end.role)
          (ap (λ m. m.0.holds) now ∙ (end.known ∙ c.requires)) (carries _ _ _ _ (out_one _ _ end.slot c.requires).1 now),
    )
