use Rattle.std.proofs.Common.{◌≡◌, length, All, vec_capacity}
use Rattle.status.proofs.board.Board.seats.Given as goal

abbrev pub invariant-loop-done : goal.invariant-loop-done
invariant-loop-done g l = (l.publisher ≡ l.initial.publisher) × (length l.seats.items ≡ l.done)
    × (vec_capacity l.seats ≡ l.count) × All (λ seat. seat ≡ l.initial.publisher) l.seats.items
