use Rattle.std.proofs.Common.{rules, ◌≡◌, ap, sym, ◌∙◌, subst, arith, length, List}
use mathlib.Core.List.{IsPrefix}
use Rattle.unit_sequence.proofs.Beginnings.{prefix_shorter, prefix_whole}
use Rattle.unit_sequence.proofs.history.AnyHistory.is_same.Goals as goal

pub returns : goal.returns
returns g c =
    let both = c.learn.new.self.log in
    let this : IsPrefix c.self.inside.seen.log both =
    subst (λ (l : List g.row.E.Denot). IsPrefix l both) (ap (λ s. s.log) c.again-both.ensures) c.learn.ensures.2 in
    let count : c.self.inside.count ≡ c.other.inside.count = search rules in
    let place : c.self.inside.place ≡ c.other.inside.place = search rules in
    let same : length c.self.inside.seen.log ≡ length c.other.inside.seen.log =
    sym c.self.invariant.0 ∙ (count ∙ c.other.invariant.0) in
    let begins = prefix_shorter c.self.inside.seen.log c.other.inside.seen.log both this c.learn.ensures.3
    (omega (arith, same)) in
    let log = prefix_whole c.self.inside.seen.log c.other.inside.seen.log begins (omega (arith, same)) in
    sym c.self.view_is ∙ ((λ i. (place i, log i)) ∙ c.other.view_is)
