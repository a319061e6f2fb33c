use Rattle.std.proofs.Common.{◌++◌, ◌∷◌, ◌∙◌, [], List, ap, subst, sym}
use Rattle.status.specs.Views.{words_of}
use Rattle.status.proofs.Steps.{attaches_as}
use Rattle.status.proofs.publisher.Publisher.begin.Goals as goal

pub become_as-requires-clause-rule : goal.become_as-requires-clause-rule
become_as-requires-clause-rule g c =
    let with = λ (seen : List _). seen ++ g.M.Plain.ask c.args.about.now ∷ [] in
    attaches_as g.P.Published.own g.P.Published.command g.P.Published.legal g.P.Published.rows _ _ _ _ _ c.self.invariant.1 c.requires.free
    (subst (λ (seen : List _). g.P.Published.legal g.J.Origin.from (with seen)) (sym c.self.view_is) c.requires.legal)
    (c.words.ensures ∙ (ap words_of c.requires.row
    ∙ ap (λ (seen : List _). words_of (g.P.Published.rows g.J.Origin.from (with seen))) (sym c.self.view_is)))
