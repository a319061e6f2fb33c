use Rattle.std.proofs.Common.{rules, ◌∙◌}
use Rattle.timed_calls.proofs.Handed.{may_rest}
use Rattle.timed_calls.proofs.handing.ServingEnd.change.Goals as goal

pub compare_exchange-requires : goal.compare_exchange-requires
compare_exchange-requires g c =
    let end = c.args.self.now in (
      search rules,
      search rules,
      may_rest _ _ _ _ _ c.deref.result.now.sized.1 c.args.from c.args.to end.role (end.known ∙ (search rules)) c.requires.turn,
    )
