use Rattle.std.proofs.Common.{⊎_elim, inl, inr, ◌∙◌, ap, arith, List, ℕ}
use Rattle.block_file.specs.CutLaws.{front_between, front_new, front_lands}
use Rattle.block_file.specs.Disk.{written}
use Rattle.block_file.proofs.FailureLaws.{was_done}
use Rattle.block_file.proofs.fused.land.Goals as goal

pub returns-then-blocks-gt0-clause-landed : goal.returns-then-blocks-gt0-clause-landed
returns-then-blocks-gt0-clause-landed g c = λ h room same.
    was_done _ _ c.write_run.result c.write_run.ensures.failures room same (c.write_run.ensures.written h)
    ∙ ap (λ (bs : List (List ℕ)). written (g.B.Blocks.contents c.args.device.now) c.args.first bs)
    (front_lands c.args.lands c.min-blocks.result c.args.bytes.now (omega arith))

pub returns-then-blocks-gt0-clause-torn : goal.returns-then-blocks-gt0-clause-torn
returns-then-blocks-gt0-clause-torn g c = λ h.
    front_between c.args.first c.min-blocks.result c.args.bytes.now _ _ (omega arith) (c.write_run.ensures.torn h)

pub returns-then-blocks-gt0-clause-crash : goal.returns-then-blocks-gt0-clause-crash
returns-then-blocks-gt0-clause-crash g c = λ h k value held.
    ⊎_elim (λ o. inl o) (λ n. inr (front_new c.args.first c.min-blocks.result c.args.bytes.now k value (omega arith) n))
    (c.write_run.ensures.crash h k value held)
