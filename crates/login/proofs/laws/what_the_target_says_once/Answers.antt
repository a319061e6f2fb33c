use Rattle.login.proofs.Once.{known, no_tag, no_length}
use Rattle.login.proofs.laws.what_the_target_says_once.Goals as goal

pub returns : goal.returns
returns c = record { known = known; tag = no_tag; length = no_length }
