use Rattle.std.proofs.Common.{rules}
use Rattle.timed_calls.proofs.Handed.{may_end}
use Rattle.timed_calls.proofs.handing.AskingEnd.close.Goals as goal

pub store-requires : goal.store-requires
store-requires g c =
    (search rules, search rules, may_end _ _ _ _ _ c.deref.result.now.sized.1 c.args.self.now.role)
