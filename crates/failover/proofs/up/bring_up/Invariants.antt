use Rattle.std.specs.Prelude.{◌≡◌}
use Rattle.failover.specs.Up.{AreUp}
use Rattle.failover.proofs.up.bring_up.Given as goal

abbrev pub invariant-loop-place : goal.invariant-loop-place
invariant-loop-place g l =
    (g.M.Moves.unit_count l.mover ≡ g.M.Moves.unit_count l.fn.mover)
    × AreUp g.M.Moves.made l.fn.chosen l.place (g.M.Moves.asked l.mover)
