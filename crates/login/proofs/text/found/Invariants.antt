use Rattle.std.proofs.Common.{◌≡◌, ◌≤◌, length}
use Rattle.login.specs.Text.{pairs, found}
use Rattle.login.proofs.text.found.Given as goal

abbrev pub invariant-loop-first : goal.invariant-loop-first
invariant-loop-first l = record {
  value : found l.key (pairs l.rest) ≡ found l.key (pairs l.text);
  within : length l.rest ≤ length l.text;
}

abbrev pub decreases-loop-first : goal.decreases-loop-first
decreases-loop-first l = length l.rest
