use Rattle.std.proofs.Common.{◌≡◌, ◌∙◌, ◌+◌, All, arith, length, ap, sym, subst}
use Rattle.std.proofs.lemmas.List.{length_push}
use Rattle.std.proofs.lemmas.List.Elements.{All-push}
use Rattle.status.proofs.board.Board.seats.Goals as goal

pub loop-done-preserved : goal.loop-done-preserved
loop-done-preserved g c =
    let is = c.loop-done.invariant in
    let items = c.push_reserved.ensures.items in (
      c.seat.ensures.publisher ∙ is.0,
      ap length items ∙ (length_push c.loop-done.seats.items c.seat.result ∙ ap (λ n. n + 1) is.1),
      c.push_reserved.ensures.capacity ∙ is.2,
      subst (All (λ seat. seat ≡ c.args.publisher.now)) (sym items)
          (All-push (λ seat. seat ≡ c.args.publisher.now) c.loop-done.seats.items c.seat.result is.3 (c.seat.ensures.seat ∙ is.0)),
    )

pub returns : goal.returns
returns g c =
    let is = c.loop-done.invariant in
    record { count = omega (arith, is.1, c.loop-done-test.false, c.loop-done.auto.done-end); seats = is.3; publisher = is.0 }
