use Rattle.std.proofs.Common.{sym}
use Rattle.compare_write.proofs.DifferenceLaws.{none_differs}
use Rattle.compare_write.proofs.compare.difference.Goals as goal

pub returns-in-Some-clause-compared : goal.returns-in-Some-clause-compared
returns-in-Some-clause-compared c = sym c.in-Some.ensures.is

pub returns-in-None-clause-compared : goal.returns-in-None-clause-compared
returns-in-None-clause-compared c =
    none_differs c.args.held.now c.args.given.now c.requires.long (sym c.in-None.ensures.is)
