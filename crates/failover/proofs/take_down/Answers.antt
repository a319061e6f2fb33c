use Rattle.std.proofs.Common.{◌∙◌, ◌+◌, List, subst, sym}
use Rattle.failover.specs.Mover.{Move}
use Rattle.failover.specs.Down.{AreDown}
use Rattle.failover.proofs.Down.{one_more_down}
use Rattle.failover.proofs.take_down.Goals as goal

pub loop-place-preserved : goal.loop-place-preserved
loop-place-preserved g c =
    let made = g.M.Moves.made in
    let n = c.loop-place.place in
    let t = c.move_to.ensures.asked in (
      c.move_to.ensures.unit_count ∙ c.loop-place.invariant.0,
      subst (λ (ms : List Move). AreDown made c.args.controller (n + 1) ms) (sym t.1)
          (one_more_down made c.args.controller n (g.M.Moves.asked c.loop-place.mover) t.0 c.in_default.field-0
          c.loop-place.invariant.1 (t.2, t.3 ∙ c.down_list-list.ensures, t.5) (t.4 ∙ c.in_default.is)),
    )
