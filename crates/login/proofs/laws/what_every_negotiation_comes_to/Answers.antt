use Rattle.login.proofs.InRange.{relied_on}
use Rattle.login.proofs.laws.what_every_negotiation_comes_to.Goals as goal

pub returns : goal.returns
returns c = relied_on
