use Rattle.std.proofs.Common.{ap, Some}
use Rattle.session_rules.specs.Words.{Normal}
use Rattle.session_rules.specs.LoginPhase.{LoginStanding}
use Rattle.session.proofs.phases.Phases.new.Goals as goal

pub returns-in_ok-new-in-Login : goal.returns-in_ok-new-in-Login
returns-in_ok-new-in-Login c =
    rw c.in-Login.is (
      ap (λ (l : LoginStanding). Some l) c.in_ok-login-in-Login.ensures,
      Normal,
      _,
      c.in_ok-new-in-Login.ensures,
    )
