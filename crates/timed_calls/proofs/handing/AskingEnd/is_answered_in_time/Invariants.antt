use Rattle.std.specs.Prelude.{◌≡◌}
use Rattle.timed_calls.proofs.handing.AskingEnd.is_answered_in_time.Given as goal

abbrev pub invariant-loop : goal.invariant-loop
invariant-loop g l = l.self.seat.me ≡ l.initial.self.seat.me
