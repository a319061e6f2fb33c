use Rattle.aptpl_file.proofs.OneHeld.{one_record}
use Rattle.aptpl_file.proofs.laws.one_record_is_held.Goals as goal

pub returns : goal.returns
returns c = one_record
