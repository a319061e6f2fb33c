use Rattle.std.proofs.Common.{◌<◌, All, List, length, arith, ap, subst, sym}
use Rattle.session_units.specs.Submitted.{At}
use Rattle.live_sessions.proofs.Refusing.{still_fresh}
use Rattle.live_sessions.proofs.target.SessionTargetTarget.end.Goals as goal

pub invariant_of-self : goal.invariant_of-self
invariant_of-self g c =
    let none = c.retire_all.ensures.left in
    let room = c.retire_all.ensures.room in
    let empty = ap length none in (
      subst (λ (at : List At). All (λ a. a.place < g.U.LogicalUnits.unit_count c.self.inside.device.now.units) at) (sym none)
          (λ k d lt. absurd (omega (arith, lt))),
      omega (arith, room, c.retire_all.ensures.capacity, c.self.invariant.1, empty),
      still_fresh c.self.inside.connection c.self.inside.begun c.self.inside.at.items c.retire_all.new.attached.items
          c.self.inside.seen.items c.retire_all.new.seen.items c.self.invariant.2 none room,
    )
