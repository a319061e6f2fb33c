use Rattle.std.proofs.Common.{◌∙◌, List, not, ap, rules}
use Rattle.std.proofs.lemmas.Fn.{filter_same}
use Rattle.session_rules.specs.Words.{filter}
use Rattle.session_rules.specs.{Tasks.Collecting, Drops.drops}
use Rattle.session_tasks.proofs.collecting.WaitingCommands.drop_by.Goals as goal

pub returns-clause-kept : goal.returns-clause-kept
returns-clause-kept c =
    filter_same _ (λ (x : Collecting). not (drops c.args.request.now x.command)) _
    (λ x b f' k. search rules) _ _ c.retain.ensures.filtered
    ∙ ap (λ (cs : List Collecting). filter (λ x. not (drops c.args.request.now x.command)) cs) c.self.view_is
