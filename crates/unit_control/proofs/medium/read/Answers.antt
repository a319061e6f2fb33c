use Rattle.std.proofs.Common.{arith, rules}
use Rattle.std.proofs.lemmas.Grind.{common_steps, elements, pieces}
use Rattle.unit_control.proofs.medium.read.Goals as goal

pub returns-then-not-fua-clause-worked : goal.returns-then-not-fua-clause-worked
returns-then-not-fua-clause-worked g c = search (pieces, arith) depth 5 fits 300

pub returns-in-Done-clause-worked : goal.returns-in-Done-clause-worked
returns-in-Done-clause-worked g c = search rules

pub returns-in-Done-clause-failed_reads : goal.returns-in-Done-clause-failed_reads
returns-in-Done-clause-failed_reads g c = grind (arith, common_steps, g.met.B.Blocks.fits, g.met.B.Blocks.summed, g.met.B.Blocks.bounded, g.met.B.Blocks.sized, g.met.B.Blocks.wide, g.met.B.Blocks.is_outcome, g.met.B.Blocks.counts_now, g.met.B.Blocks.only_now) steps 4000000

pub returns-in-Done-clause-failed_writes : goal.returns-in-Done-clause-failed_writes
returns-in-Done-clause-failed_writes g c = grind (arith, elements) steps 2000000

pub returns-in_default : goal.returns-in_default
returns-in_default g c = search (pieces, arith) depth 5 fits 300
