use Rattle.std.specs.Prelude.{◌≡◌}
use Rattle.failover.specs.Down.{AreDown}
use Rattle.failover.proofs.take_down.Given as goal

abbrev pub invariant-loop-place : goal.invariant-loop-place
invariant-loop-place g l =
    (g.M.Moves.unit_count l.mover ≡ g.M.Moves.unit_count l.fn.mover)
    × AreDown g.M.Moves.made l.fn.controller l.place (g.M.Moves.asked l.mover)
