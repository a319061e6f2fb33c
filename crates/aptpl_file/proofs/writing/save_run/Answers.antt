use Rattle.std.proofs.Common.{ℕ, List, subst}
use Rattle.std.proofs.lemmas.Result.{on_ok_weaker}
use Rattle.block_file.specs.Disk.{Only}
use Rattle.aptpl_file.proofs.writing.save_run.Goals as goal

pub returns-clause-lasts : goal.returns-clause-lasts
returns-clause-lasts g c = λ h.
    on_ok_weaker c.flush.result
    (subst (λ (disk : List (List ℕ)). Only disk (g.B.Blocks.may_hold c.flush.new.self)) (c.in-Ok.ensures.written h))
    (c.flush.ensures.durable h)
