use Rattle.unit_state.proofs.HistoryLaws.{failed-le-length, failed-snoc}
use Rattle.unit_state.proofs.laws.failures_are_counted.Goals as goal

pub returns-clause-most : goal.returns-clause-most
returns-clause-most c = failed-le-length

pub returns-clause-more : goal.returns-clause-more
returns-clause-more c = failed-snoc
