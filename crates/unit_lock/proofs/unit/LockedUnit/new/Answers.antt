use Rattle.std.proofs.Common.{◌≡◌, subst, List, All}
use Rattle.unit_lock.proofs.unit.LockedUnit.new.Goals as goal

pub returns-in-Ok : goal.returns-in-Ok
returns-in-Ok g c = (
  c.in-Ok.ensures.count,
  subst (λ (h : List g.row.E.Denot). All (λ (seat : List g.row.E.Denot). seat ≡ h) c.in-Ok.seats.items)
      c.open-posted.ensures c.in-Ok.ensures.seats,
)
