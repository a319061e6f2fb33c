use Rattle.std.proofs.Common.{◌≡◌, ℕ, ◌-◌, ◌+◌, List, take, drop, arith, sym, ap, ◌∙◌}
use Rattle.std.proofs.lemmas.List.{drop-take}
use Rattle.std.proofs.lemmas.List.Edits.{take-paste}
use Rattle.std.proofs.Common.{length-drop}
use Rattle.session.proofs.inbox.make_room.Goals as goal

pub returns-clause-moved : goal.returns-clause-moved
returns-clause-moved c =
    let start = c.args.start in
    let n = c.args.filled - start in
    let xs = c.args.bytes.now in
    let whole : start + n ≡ c.args.filled = omega (arith, c.requires.within.0) in
    ap (take (0 + n)) c.copy_within.ensures.after
    ∙ take-paste xs 0 (drop start xs) n (omega arith) (omega (arith, length-drop start xs, c.requires.within.0, c.requires.within.1))
    ∙ sym (drop-take start n xs) ∙ ap (λ (k : ℕ). drop start (take k xs)) whole
