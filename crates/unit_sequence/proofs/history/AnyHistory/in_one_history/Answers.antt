use Rattle.std.proofs.Common.{ap, subst, List}
use mathlib.Core.List.{IsPrefix}
use Rattle.unit_sequence.proofs.Beginnings.{one_begins}
use Rattle.unit_sequence.proofs.history.AnyHistory.in_one_history.Goals as goal

pub returns : goal.returns
returns g c =
    let both = c.learn.new.self.log in
    let this : IsPrefix c.self.inside.seen.log both =
    subst (λ (l : List g.row.E.Denot). IsPrefix l both) (ap (λ s. s.log) c.again-both.ensures) c.learn.ensures.2 in
    rw (← c.self.view_is, ← c.other.view_is)
    (one_begins c.self.inside.seen.log c.other.inside.seen.log both this c.learn.ensures.3)
