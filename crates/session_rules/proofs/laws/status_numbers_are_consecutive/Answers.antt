use Rattle.session_rules.proofs.Following.{consecutive}
use Rattle.session_rules.proofs.laws.status_numbers_are_consecutive.Goals as goal

pub returns : goal.returns
returns c = consecutive
