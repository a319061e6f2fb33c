use Rattle.std.proofs.Common.{rules}
use Rattle.timed_calls.proofs.Handed.{may_take_back}
use Rattle.timed_calls.proofs.handing.AskingEnd.take.Goals as goal

pub load-requires : goal.load-requires
load-requires g c =
    let end = c.args.self.now in (
      search rules,
      search rules,
      may_take_back _ _ _ _ _ c.deref.result.now.sized.1 _ end.role end.known (search rules) end.slot,
    )
