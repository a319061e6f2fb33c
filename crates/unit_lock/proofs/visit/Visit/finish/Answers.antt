use Rattle.std.proofs.Common.{arith}
use Rattle.std.proofs.lemmas.Grind.{common_steps}
use Rattle.unit_lock.proofs.visit.Visit.finish.Goals as goal

pub returns-clause-added : goal.returns-clause-added
returns-clause-added g c = grind (arith, common_steps) steps 4000000
