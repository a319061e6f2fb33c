use Rattle.std.proofs.Common.{rules}
use Rattle.timed_calls.proofs.Handed.{may_take}
use Rattle.timed_calls.proofs.handing.ServingEnd.take.Goals as goal

pub load-requires : goal.load-requires
load-requires g c =
    let end = c.args.self.now in (
      search rules,
      search rules,
      may_take _ _ _ _ _ c.deref.result.now.sized.1 _ end.role end.known (search rules) end.slot,
    )
