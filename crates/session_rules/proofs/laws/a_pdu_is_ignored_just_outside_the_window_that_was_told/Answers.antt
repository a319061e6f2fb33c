use Rattle.session_rules.proofs.WindowTold.{ignored_outside}
use Rattle.session_rules.proofs.laws.a_pdu_is_ignored_just_outside_the_window_that_was_told.Goals as goal

pub returns : goal.returns
returns c = ignored_outside
