use Rattle.std.proofs.Common.{rules, ap, sym, ◌∙◌}
use Rattle.timed_calls.proofs.Handed.{may_give, may_put, out_one, carries}
use Rattle.timed_calls.proofs.handing.ServingEnd.hand_back.Goals as goal

pub exchange-requires : goal.exchange-requires
exchange-requires g c =
    let end = c.args.self.now in (search rules, may_put _ _ (out_one _ _ end.slot c.requires.holds).1)

pub swap-requires : goal.swap-requires
swap-requires g c =
    let end = c.args.self.now in
    let now = c.exchange.ensures.3 in (
      search rules,
      search rules,
      may_give _ _ _ _ _ c.deref.result.now.sized.1 _ (ap (λ m. m.0.role) now ∙ end.role)
          (ap (λ m. m.0.holds) now ∙ (end.known ∙ c.requires.holds)) (carries _ _ _ _ (out_one _ _ end.slot c.requires.holds).1 now)
          (c.requires.same.0 ∙ sym (ap (λ m. m.0.serial) now), c.requires.same.1 ∙ sym (ap (λ m. m.0.given) now)),
    )
