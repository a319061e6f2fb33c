use Rattle.live_sessions.specs.Handles.{AreTaken}
use Rattle.live_sessions.proofs.handles.first_free.Given as goal

abbrev pub invariant-loop-before : goal.invariant-loop-before
invariant-loop-before g l = AreTaken g.S.Handled.handle l.live l.above l.before
