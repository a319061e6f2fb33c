use Rattle.std.proofs.Common.{◌≡◌, ◌∙◌, Bool, true, false, IsTrue, Some, refl, sym}
use Rattle.std.proofs.lemmas.Option.{slice_get_read}
use Rattle.unit_control.specs.Places.{IsPlaceOf}
use Rattle.unit_control.specs.Sessions.{session_of}
use Rattle.unit_control.proofs.control.Control.allows.Goals as goal

one_answer : (a b : Bool) → (IsTrue a → IsTrue b) → (IsTrue b → IsTrue a) → a ≡ b
one_answer true true to back = refl
one_answer false false to back = refl
one_answer true false to back = sym (to refl)
one_answer false true to back = back refl

pub returns : goal.returns
returns c =
    let place : IsPlaceOf c.self.inside.sessions.items c.args.sender.session c.args.sender.at = rw (← c.self.view_is) at c.requires in
    let is : session_of c.self.inside.sessions.items c.args.sender.session ≡ Some c.index-attached.result.now =
    place.found ∙ slice_get_read _ _ _ _ refl place.below c.index-attached.ensures in
    rw (← c.self.view_is, is) (one_answer _ _ c.allows.ensures.0 c.allows.ensures.1)
