use Rattle.std.proofs.Common.{arith}
use Rattle.std.proofs.lemmas.Grind.{moves, pieces}
use Rattle.unit_control.proofs.medium.write.Goals as goal

pub returns-in-Done-clause-worked : goal.returns-in-Done-clause-worked
returns-in-Done-clause-worked g c = grind (arith, moves) steps 2000000

pub returns-in-Done-clause-failures : goal.returns-in-Done-clause-failures
returns-in-Done-clause-failures g c = grind (arith, moves) steps 2000000

pub returns-in-Done-clause-failed_reads : goal.returns-in-Done-clause-failed_reads
returns-in-Done-clause-failed_reads g c = grind (arith, moves) steps 2000000

pub returns-in-Done-clause-left : goal.returns-in-Done-clause-left
returns-in-Done-clause-left g c = search (pieces, arith) depth 5 fits 300

pub returns-in_default-clause-worked : goal.returns-in_default-clause-worked
returns-in_default-clause-worked g c = grind (arith, moves) steps 2000000

pub returns-in_default-2 : goal.returns-in_default-2
returns-in_default-2 g c = grind (arith, moves) steps 2000000
