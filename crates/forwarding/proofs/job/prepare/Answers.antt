use Rattle.std.proofs.Common.{arith}
use Rattle.std.proofs.lemmas.Grind.{common_steps}
use Rattle.forwarding.proofs.job.prepare.Goals as goal

pub returns-clause-waits : goal.returns-clause-waits
returns-clause-waits g c = grind (arith, common_steps) steps 4000000
