use Rattle.session_rules.proofs.LoginNumbers.{counts_on}
use Rattle.session_rules.proofs.laws.status_numbers_count_on_behind_a_login.Goals as goal

pub returns : goal.returns
returns c = counts_on
