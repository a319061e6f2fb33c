use Rattle.std.proofs.Common.{List, ℕ, subst, ap, arith, OnOk, ◌≡◌, ◌∙◌}
use Rattle.block_file.specs.Cut.{cut}
use Rattle.block_file.specs.CutLaws.{run_of_front}
use Rattle.block_file.specs.Disk.{written, Between, Adds}
use Rattle.compare_write.proofs.medium.write_front.Goals as goal

pub returns-clause-written : goal.returns-clause-written
returns-clause-written g c = λ h.
    subst
    (λ (bs : List (List ℕ)). OnOk c.write_run.result
    (g.B.Blocks.contents c.write_run.new.self ≡ written (g.B.Blocks.contents c.args.device.now) c.args.lba bs))
    (run_of_front c.from.result c.args.bytes.now (omega arith) ∙ ap (λ (m : ℕ). cut m c.args.bytes.now) c.from.ensures) (c.write_run.ensures.written h)

pub returns-clause-torn : goal.returns-clause-torn
returns-clause-torn g c = λ h.
    subst
    (λ (bs : List (List ℕ)).
    Between (g.B.Blocks.contents c.args.device.now) c.args.lba bs (g.B.Blocks.contents c.write_run.new.self))
    (run_of_front c.from.result c.args.bytes.now (omega arith) ∙ ap (λ (m : ℕ). cut m c.args.bytes.now) c.from.ensures) (c.write_run.ensures.torn h)

pub returns-clause-crash : goal.returns-clause-crash
returns-clause-crash g c = λ h.
    subst
    (λ (bs : List (List ℕ)).
    Adds c.args.lba bs (g.B.Blocks.may_hold c.args.device.now) (g.B.Blocks.may_hold c.write_run.new.self))
    (run_of_front c.from.result c.args.bytes.now (omega arith) ∙ ap (λ (m : ℕ). cut m c.args.bytes.now) c.from.ensures) (c.write_run.ensures.crash h)
