use Rattle.session_rules.proofs.WindowEnds.{max_counted, never_falls}
use Rattle.session_rules.proofs.laws.the_window_never_falls.Goals as goal

pub returns : goal.returns
returns c = record { counted = max_counted; grows = never_falls }
