use Rattle.std.proofs.Common.{rules, ◌≡◌, ◌∷◌, ◌++◌, [], List, ap, ◌∙◌}
use Rattle.std.proofs.lemmas.Fn.{filter_same}
use Rattle.registrants.specs.Nexus.{through}
use Rattle.live_sessions.specs.declared.live.LiveSession.{LiveSession}
use Rattle.live_sessions.specs.Live.{others}
use Rattle.live_sessions.proofs.live.replace.Goals as goal

pub returns : goal.returns
returns g c =
    let kept : c.retain.new.self.items ≡ others (through c.args.new.begun.port c.args.new.begun.group) c.args.new.begun.kind c.args.live.now.items =
    filter_same _ _ _ (λ x b f' k. search rules) _ _ c.retain.ensures.filtered in
    c.push_reserved.ensures.items ∙ ap (λ (ss : List (LiveSession _)). ss ++ c.args.new ∷ []) kept
