use Rattle.std.proofs.Common.{◌<◌, subst, ap, ◌∙◌}
use Rattle.login.specs.Progress.{Progress}
use Rattle.login.proofs.Sizes.{response_room, response_put}
use Rattle.login.proofs.negotiation.Negotiation.proceed.Goals as goal

pub put_response-requires : goal.put_response-requires
put_response-requires c = record {
  room =
      response_room c.args.self.now c.args.flags _ _ _
      (subst (λ (s : Progress). s.tag < 65536) c.self.view_is c.self.invariant.3)
      c.requires.fits (c.deref.ensures.value
      ∙ ap (λ (s : Progress). s.run_text) c.self.view_is) c.requires.empty c.requires.room;
}

pub returns-clause-short : goal.returns-clause-short
returns-clause-short c =
    response_put c.args.self.now c.args.flags _ c.args.out.now.items _
    (subst (λ (s : Progress). s.tag < 65536) c.self.view_is c.self.invariant.3)
    c.requires.fits (c.deref.ensures.value ∙ ap (λ (s : Progress). s.run_text) c.self.view_is) c.requires.empty
    c.put_response.ensures.put
