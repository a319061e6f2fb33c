use Rattle.std.proofs.Common.{refl}
use Rattle.session_login.proofs.LoginTurns.{faulted}
use Rattle.session_login.proofs.turn.login_fault_turn.Goals as goal

pub returns : goal.returns
returns g c =
    faulted g.T.Target.leads _ _ _ _ _ _ _ _ _ _ c.args.bhs.now _ _ c.take_numbers-numbers.ensures.numbers
    c.take_numbers-numbers.ensures.after
    c.args.fault _ refl c.reject_reason-reason.ensures refl c.fill.ensures.queued
