use Rattle.deadline.proofs.prepared.DeadlinedPreparerPreparer.read.Goals as goal

pub returns-in-Some : goal.returns-in-Some
returns-in-Some g c = rw c.exchange-memory.ensures at c.read_behind.ensures
