use Rattle.unit_history.proofs.shared.SharedUnit.flush.Goals as goal

pub returns : goal.returns
returns g c = record { history = c.flush.ensures.0; legal = c.flush.ensures.1; flushed = c.flush.ensures.2 }
