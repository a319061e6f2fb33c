use Rattle.std.proofs.Common.{◌≡◌, ◌<◌, ◌≤◌, ◌+◌, ℕ, List, Option, Result, Ok, Err, IfOk, length, take, drop, arith, length-take-le}
use Rattle.std.proofs.Common.{length-take, length-drop}
use Rattle.std.specs.Io.KnownBytes.{Consumes, IsAtEnd}
use Rattle.session_stream.specs.declared.source.Unread.{Unread}
use Rattle.session.{specs.Inbox.Filled, proofs.Memory.grown_behind}
use borrow.Rule.Slice.PartMut.{put_mid, post_of}
use Rattle.session.proofs.inbox.read_behind.Goals as goal

filled_behind : (left left' : Option (List ℕ)) (xs part : List ℕ) (start filled k : ℕ) (r : Result ℕ Unread)
    (room : Type 0) → start ≤ filled → filled < length xs → room
    → IfOk r (λ n. n ≤ length part) → IfOk r (λ n. Consumes left left' (take n part))
    → IfOk r (λ n. n ≡ 0 → room → IsAtEnd left')
    → IfOk r (λ n. Filled left left' (drop start (take filled xs))
    (drop start (take (filled + n) (put_mid filled k xs part))) n)
filled_behind left left' xs part start filled k (Ok n) room order within some bound ok end = record {
  more = take n part;
  grown = grown_behind xs part (post_of filled k xs) start filled n order (omega arith) bound;
  count = length-take-le n part bound;
  read = ok;
  end = λ none. end none some;
}
filled_behind left left' xs part start filled k (Err e) room order within some bound ok end = tt

pub returns-clause-ok : goal.returns-clause-ok
returns-clause-ok g c =
    filled_behind _ _ c.args.bytes.now c.read_some.new.buf c.args.start c.args.filled _ c.read_some.result _
    c.requires.0 c.requires.1 (omega (arith, c.requires.1, length-take {A = ℕ}, length-drop {A = ℕ}))
    c.read_some.ensures.bound c.read_some.ensures.ok c.read_some.ensures.end
