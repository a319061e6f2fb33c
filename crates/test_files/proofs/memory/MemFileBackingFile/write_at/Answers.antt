use Rattle.std.proofs.Common.{◌∙◌, ap, ℕ}
use Rattle.disk_files.specs.Backing.{put}
use Rattle.test_files.proofs.WholeWrites.{is_done, done_adds}
use Rattle.test_files.proofs.memory.MemFileBackingFile.write_at.Goals as goal

pub returns-clause-torn : goal.returns-clause-torn
returns-clause-torn c claims lies =
    let old = c.args.self.now.bytes.items in
    is_done old _ c.lay.ensures.long (put old c.args.offset c.args.part.now)
    (c.lay.ensures.is ∙ ap (λ (m : ℕ). put old m c.args.part.now) c.in-Some.ensures.some.0)

pub returns-clause-crash : goal.returns-clause-crash
returns-clause-crash c claims lies k value =
    let old = c.args.self.now.bytes.items in
    done_adds old _ c.lay.ensures.long c.args.self.now.lasting.items (put old c.args.offset c.args.part.now)
    (c.lay.ensures.is ∙ ap (λ (m : ℕ). put old m c.args.part.now) c.in-Some.ensures.some.0) k value
