use Rattle.session_rules.proofs.Uncalled.{had_no_r2t}
use Rattle.session_rules.proofs.laws.a_write_that_was_asked_for_its_data_is_called.Goals as goal

pub returns : goal.returns
returns c = had_no_r2t
