use Rattle.std.specs.Prelude.{◌≡◌, ◌≤◌}
use Rattle.session_rules.specs.Words.{take, count_by}
use Rattle.session_rules.specs.Collecting.{shrinks_window}
use Rattle.session_tasks.proofs.collecting.WaitingCommands.numbered.Given as goal

abbrev pub invariant-loop-i : goal.invariant-loop-i
invariant-loop-i l = (l.count ≡ count_by shrinks_window (take l.i l.self)) × (l.count ≤ l.i)
