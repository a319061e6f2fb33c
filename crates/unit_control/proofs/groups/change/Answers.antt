use Rattle.std.proofs.Common.{arith}
use Rattle.std.proofs.lemmas.Grind.{common_steps, pieces}
use Rattle.unit_control.proofs.groups.change.Goals as goal

pub returns-clause-opened : goal.returns-clause-opened
returns-clause-opened g c = search (pieces, arith) depth 5 fits 300

pub returns-clause-kept : goal.returns-clause-kept
returns-clause-kept g c = search (pieces, arith) depth 5 fits 300

pub returns-clause-unopened : goal.returns-clause-unopened
returns-clause-unopened g c = search (pieces, arith) depth 5 fits 300

pub returns-clause-failures : goal.returns-clause-failures
returns-clause-failures g c = grind (arith, common_steps, g.met.B.Blocks.fits, g.met.B.Blocks.summed, g.met.B.Blocks.bounded, g.met.B.Blocks.sized, g.met.B.Blocks.wide, g.met.B.Blocks.is_outcome, g.met.B.Blocks.counts_now, g.met.B.Blocks.only_now) steps 4000000
