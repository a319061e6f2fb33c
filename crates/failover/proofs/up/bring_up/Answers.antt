use Rattle.std.proofs.Common.{◌≡◌, ◌∙◌, ◌+◌, List, arith, ap, subst, sym}
use Rattle.failover.specs.Mover.{Move}
use Rattle.failover.specs.Up.{AreUp}
use Rattle.failover.proofs.Chosen.{few_moves, one_more_up, one_not_chosen, list_of_place}
use Rattle.failover.proofs.up.bring_up.Goals as goal
use Rattle.failover.proofs.up.bring_up.Goals.{then-chosen-place+in_default, else-chosen-place}

pub move_to-requires-clause-room : goal.move_to-requires-clause-room
move_to-requires-clause-room g c =
    let few = few_moves g.M.Moves.made c.args.chosen.now c.loop-place.place (g.M.Moves.asked c.loop-place.mover) c.loop-place.invariant.1 in
    omega (arith, few, c.loop-place-test.true, c.count-place-end.ensures.count, c.count-place-end.ensures.few)

pub returns-in-Err-clause-stopped : goal.returns-in-Err-clause-stopped
returns-in-Err-clause-stopped g c =
    let t = c.move_to.ensures.asked in
    let list = list_of_place t.0 c.loop-place.place c.up_list-list.result c.preferred.result t.2 t.3 c.up_list-list.ensures c.preferred.ensures in (
      omega (arith, c.loop-place-test.true, c.count-place-end.ensures.count),
      (
        g.M.Moves.asked c.loop-place.mover,
        t.0,
        t.1,
        c.loop-place.invariant.1,
        (list, t.5),
        t.2,
        c.if-chosen-place.true,
        t.4 ∙ c.in-Err.is,
      ),
    )

pub loop-place-preserved : goal.loop-place-preserved
loop-place-preserved g c =
    let made = g.M.Moves.made in
    let chosen = c.args.chosen.now in
    let n = c.loop-place.place in
    let before = g.M.Moves.asked c.loop-place.mover in
    elim c.if-chosen-place.branch [
      | then-chosen-place+in_default w ↦
          let t = w.move_to.ensures.asked in
          let list = list_of_place t.0 n w.up_list-list.result w.preferred.result t.2 t.3 w.up_list-list.ensures w.preferred.ensures in
          let is : c.if-chosen-place.mover ≡ w.move_to.new.self = w.mover-is in (
            ap g.M.Moves.unit_count is ∙ w.move_to.ensures.unit_count ∙ c.loop-place.invariant.0,
            subst (λ (ms : List Move). AreUp made chosen (n + 1) ms) (sym t.1 ∙ sym (ap g.M.Moves.asked is))
                (one_more_up made chosen n before c.loop-place.invariant.1 t.0 w.in_default.field-0 t.2 w.if-chosen-place.true
                (list, t.5) (t.4 ∙ w.in_default.is)),
          )
      | else-chosen-place w ↦
          let is : c.if-chosen-place.mover ≡ c.loop-place.mover = w.mover-is in (
            ap g.M.Moves.unit_count is ∙ c.loop-place.invariant.0,
            subst (λ (ms : List Move). AreUp made chosen (n + 1) ms) (sym (ap g.M.Moves.asked is))
                (one_not_chosen made chosen n before c.loop-place.invariant.1 w.if-chosen-place.false),
          )
    ]
