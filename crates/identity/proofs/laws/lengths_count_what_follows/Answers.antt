use Rattle.identity.proofs.LunList.{counted}
use Rattle.identity.proofs.laws.lengths_count_what_follows.Goals as goal

pub returns-clause-luns : goal.returns-clause-luns
returns-clause-luns c = counted
