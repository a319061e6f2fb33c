-- What stays of a session where access states change.
use Rattle.std.proofs.Common.{◌≡◌, ◌≢◌, ⊎_elim, ℕ, true, false, nat_eq, Option, Some, None, refl}
use Rattle.std.proofs.lemmas.Bool.Decides.{eqb_tells}
use Rattle.unit_control.specs.declared.sessions.Attached.{Attached}
use Rattle.unit_control.specs.Groups.{hear_change}

-- one that hears of a change has its id and the serial of its next command still
pub change_keeps : (by_session : Option ℕ) (a : Attached)
    → ((hear_change by_session a).id ≡ a.id) × ((hear_change by_session a).next ≡ a.next)
change_keeps None a = (refl, refl)
change_keeps (Some id) a =
    ⊎_elim
    (λ (t : (nat_eq a.id id ≡ true) × (a.id ≡ id)). rw t.0 (refl, refl))
    (λ (f : (nat_eq a.id id ≡ false) × (a.id ≢ id)). rw f.0 (refl, refl))
    (eqb_tells a.id id)
