use Rattle.std.proofs.Common.{◌≡◌, ◌+◌, ◌<◌, All, length, map, vec_capacity}
use Rattle.live_sessions.proofs.Retiring.{SoFar}
use Rattle.live_sessions.proofs.target.retire_all.Given as goal

abbrev pub invariant-units : goal.invariant-units
invariant-units g l =
    (length l.seen.items + length l.attached.items ≡ length l.fn.seen.items + length l.fn.attached.items)
    × (vec_capacity l.seen ≡ vec_capacity l.fn.seen)
    × All (λ a. a.place < g.U.LogicalUnits.unit_count l.units) l.attached.items
    × SoFar g.U.LogicalUnits.claims g.U.LogicalUnits.opening l.fn.attached.items l.attached.items
    (map g.U.LogicalUnits.seen l.fn.seen.items) (map g.U.LogicalUnits.seen l.seen.items)

abbrev pub decreases-units : goal.decreases-units
decreases-units g l = goal.left-units g l
