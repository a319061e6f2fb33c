use Rattle.std.proofs.Common.{rules, ◌≡◌, ◌∷◌, ◌++◌, [], List, length, ap, arith, ◌∙◌}
use Rattle.std.proofs.lemmas.Fn.{filter_same}
use Rattle.unit_control.specs.declared.sessions.Attached.{Attached}
use Rattle.unit_control.specs.Sessions.{nexus_of, without}
use Rattle.unit_control.proofs.sessions.replace.Goals as goal

pub push_reserved-requires : goal.push_reserved-requires
push_reserved-requires c =
    let kept : c.retain.new.self.items ≡ without (nexus_of c.args.new) c.args.sessions.now.items =
    filter_same _ _ _ (λ x b f' k. search rules) _ _ c.retain.ensures.filtered in
    omega (arith, ap length kept, c.retain.ensures.capacity, c.requires.room)

pub returns-clause-items : goal.returns-clause-items
returns-clause-items c =
    let kept : c.retain.new.self.items ≡ without (nexus_of c.args.new) c.args.sessions.now.items =
    filter_same _ _ _ (λ x b f' k. search rules) _ _ c.retain.ensures.filtered in
    c.push_reserved.ensures.items ∙ ap (λ (ss : List Attached). ss ++ c.args.new ∷ []) kept
