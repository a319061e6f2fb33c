use Rattle.std.proofs.Common.{◌≡◌, ◌+◌, ◌≤◌, ◌++◌, length, vec_capacity}
use Rattle.login.specs.Text.{pairs}
use Rattle.login.specs.Answer.{answers}
use Rattle.login.proofs.answer.put_answers.Given as goal

abbrev pub invariant-loop-first : goal.invariant-loop-first
invariant-loop-first l = record {
  put : l.out.items ++ answers (pairs l.rest) ≡ l.initial.out.items ++ answers (pairs l.text);
  room : length l.out.items + length (answers (pairs l.rest)) ≤ vec_capacity l.out;
  kept : vec_capacity l.initial.out ≤ vec_capacity l.out;
}

abbrev pub decreases-loop-first : goal.decreases-loop-first
decreases-loop-first l = length l.rest
