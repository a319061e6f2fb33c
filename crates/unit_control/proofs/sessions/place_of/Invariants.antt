use Rattle.std.proofs.Common.{◌≡◌, take, None}
use Rattle.unit_control.specs.Sessions.{session_of}
use Rattle.unit_control.proofs.sessions.place_of.Given as goal

abbrev pub invariant-loop-at : goal.invariant-loop-at
invariant-loop-at l = session_of (take l.at l.sessions) l.id ≡ None
