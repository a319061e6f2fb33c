use Rattle.std.proofs.Common.{◌≡◌, ◌≤◌, ◌++◌, length, vec_capacity}
use Rattle.login.specs.Text.{pairs}
use Rattle.login.specs.Targets.{answers_of}
use Rattle.login.proofs.within.answered_within.Given as goal

abbrev pub invariant-loop-first : goal.invariant-loop-first
invariant-loop-first l = record {
  put : l.out.items ++ answers_of l.by.target.now l.by.kind l.by.told.now (pairs l.rest) ≡ l.initial.out.items
      ++ answers_of l.by.target.now l.by.kind l.by.told.now (pairs l.text);
  short : length l.out.items ≤ l.most;
  room : vec_capacity l.initial.out ≤ vec_capacity l.out;
}

abbrev pub decreases-loop-first : goal.decreases-loop-first
decreases-loop-first l = length l.rest
