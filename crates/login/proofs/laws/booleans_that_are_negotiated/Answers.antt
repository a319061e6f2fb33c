use Rattle.login.proofs.Agreed.{either, both}
use Rattle.login.proofs.laws.booleans_that_are_negotiated.Goals as goal

pub returns : goal.returns
returns c = record { either = either; both = both }
