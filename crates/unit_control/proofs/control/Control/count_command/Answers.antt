use Rattle.std.proofs.lemmas.Grind.{elements}
use Rattle.std.proofs.Common.{◌≡◌, refl, arith}
use Rattle.unit_control.specs.Places.{IsPlaceOf}
use Rattle.unit_control.specs.Sessions.{one_command_more, command_counted}
use Rattle.unit_control.proofs.Places.{changed_at}
use Rattle.unit_control.proofs.control.Control.count_command.Goals as goal

pub returns-clause-counted : goal.returns-clause-counted
returns-clause-counted c =
    let place : IsPlaceOf c.self.inside.sessions.items c.args.sender.session c.args.sender.at =
    rw (← c.self.view_is) at c.requires.place in
    let is : c.count_command_at.new.sessions.items ≡ command_counted c.self.inside.sessions.items c.args.sender.session =
    changed_at one_command_more _ _ _ _ place c.count_command_at.ensures.counted in
    rw (← c.self.view_is, is) refl

pub count_command_at-requires-clause-room : goal.count_command_at-requires-clause-room
count_command_at-requires-clause-room c = grind (arith, elements) steps 2000000

pub invariant_of-self : goal.invariant_of-self
invariant_of-self c = grind (arith, elements) steps 2000000
