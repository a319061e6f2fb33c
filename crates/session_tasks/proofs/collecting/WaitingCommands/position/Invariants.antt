use Rattle.std.specs.Prelude.{◌≡◌}
use Rattle.session_rules.specs.Words.{false, take, list_any}
use Rattle.session_rules.specs.Tasks.{has_tag}
use Rattle.session_tasks.proofs.collecting.WaitingCommands.position.Given as goal

abbrev pub invariant-loop-i : goal.invariant-loop-i
invariant-loop-i l = list_any (has_tag l.tag) (take l.i l.self) ≡ false
