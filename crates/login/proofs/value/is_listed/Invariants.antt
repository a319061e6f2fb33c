use Rattle.std.proofs.Common.{◌≡◌, length}
use Rattle.login.specs.Number.{is_listed}
use Rattle.login.proofs.value.is_listed.Given as goal

abbrev pub invariant-loop-item : goal.invariant-loop-item
invariant-loop-item l = is_listed l.word l.rest ≡ is_listed l.word l.list

abbrev pub decreases-loop-item : goal.decreases-loop-item
decreases-loop-item l = length l.rest
