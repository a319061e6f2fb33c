use Rattle.std.proofs.Common.{◌≡◌, ◌++◌, length}
use Rattle.login.specs.Text.{pairs}
use Rattle.login.specs.Targets.{answers_of}
use Rattle.login.proofs.targets.answered.Given as goal

abbrev pub invariant-loop-first : goal.invariant-loop-first
invariant-loop-first l =
    l.answer.items ++ answers_of l.target l.kind l.told (pairs l.rest) ≡ answers_of l.target l.kind l.told (pairs l.text)

abbrev pub decreases-loop-first : goal.decreases-loop-first
decreases-loop-first l = length l.rest
