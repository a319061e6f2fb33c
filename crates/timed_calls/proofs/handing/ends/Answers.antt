use Rattle.std.proofs.Common.{rules}
use Rattle.timed_calls.proofs.Handed.{opens, begins_so}
use Rattle.timed_calls.proofs.handing.ends.Goals as goal

pub new-requires : goal.new-requires
new-requires g c =
    opens _ _ _ (search rules)

pub split_seat-second-requires : goal.split_seat-second-requires
split_seat-second-requires g c =
    (search rules, search rules, begins_so _ _ _ c.in-Ok.made.1.me (search rules))
