use Rattle.std.proofs.lemmas.Grind.{elements}
use Rattle.std.proofs.Common.{◌≡◌, refl, arith}
use Rattle.unit_control.specs.Places.{IsPlaceOf}
use Rattle.unit_control.specs.Sessions.{report_first, told}
use Rattle.unit_control.proofs.Places.{changed_at, place_stays}
use Rattle.unit_control.proofs.control.Control.tell.Goals as goal

pub returns-clause-told : goal.returns-clause-told
returns-clause-told c =
    let place : IsPlaceOf c.self.inside.sessions.items c.args.sender.session c.args.sender.at =
    rw (← c.self.view_is) at c.requires in
    let is : c.tell_at.new.sessions.items ≡ told c.self.inside.sessions.items c.args.sender.session =
    changed_at report_first _ _ _ _ place c.tell_at.ensures.told in
    rw (← c.self.view_is, is) refl

pub returns-clause-stays : goal.returns-clause-stays
returns-clause-stays c =
    let place : IsPlaceOf c.self.inside.sessions.items c.args.sender.session c.args.sender.at =
    rw (← c.self.view_is) at c.requires in
    let is = changed_at report_first _ _ _ _ place c.tell_at.ensures.told in
    rw (← c.self.view_is) (record { total = refl; count = refl; place = place_stays report_first (λ a. refl) _ _ _ _ place is })

pub invariant_of-self : goal.invariant_of-self
invariant_of-self c = grind (arith, elements) steps 2000000
