use Rattle.std.proofs.Common.{refl}
use Rattle.session.proofs.Exchanges.{by_turn, by_login}
use Rattle.session.proofs.phases.Phases.fault.Goals as goal

pub returns-in-None : goal.returns-in-None
returns-in-None g c = rw (← c.self.view_is) (by_turn c.in-None.is c.fault_turn.ensures)

pub returns-in-Some : goal.returns-in-Some
returns-in-Some g c = rw (← c.self.view_is, c.in-Some.is) (by_login c.login_fault_turn.ensures refl _ refl refl)
