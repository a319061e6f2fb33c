use Rattle.unit_history.proofs.Ends.{err_both, ok_both}
use Rattle.unit_history.proofs.shared.SharedUnit.serve.Goals as goal

pub returns-clause-served : goal.returns-clause-served
returns-clause-served g c = ok_both _ _ c.serve.result.1 c.serve.ensures.reply c.serve.ensures.next

pub returns-clause-refused : goal.returns-clause-refused
returns-clause-refused g c = err_both _ _ c.serve.result.1 c.serve.ensures.refused c.serve.ensures.cause
