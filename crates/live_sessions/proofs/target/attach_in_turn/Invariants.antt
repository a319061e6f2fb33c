use Rattle.std.proofs.Common.{◌≡◌, ◌<◌, ◌≤◌, All, length, vec_capacity}
use Rattle.registrants.specs.Nexus.{through}
use Rattle.live_sessions.specs.Target.{AreAttached}
use Rattle.live_sessions.proofs.target.attach_in_turn.Given as goal

abbrev pub invariant-loop-unit : goal.invariant-loop-unit
invariant-loop-unit g l =
    (length l.attached.items ≡ l.unit) × (l.count ≤ vec_capacity l.attached)
    × AreAttached g.U.LogicalUnits.claims g.U.LogicalUnits.opening (through l.port l.group) 0 l.attached.items
    × All (λ a. a.place < g.U.LogicalUnits.unit_count l.units) l.attached.items
    × (l.seen ≡ l.fn.seen)
