use Rattle.std.proofs.Common.{◌≡◌, length}
use Rattle.login.specs.Text.{pairs}
use Rattle.login.specs.Refusal.{has_repeated}
use Rattle.login.proofs.refusal.has_repeated.Given as goal

abbrev pub invariant-loop-pair : goal.invariant-loop-pair
invariant-loop-pair l = has_repeated l.first (pairs l.said) (pairs l.rest) ≡ has_repeated l.first
    (pairs l.said) (pairs l.text)

abbrev pub decreases-loop-pair : goal.decreases-loop-pair
decreases-loop-pair l = length l.rest
