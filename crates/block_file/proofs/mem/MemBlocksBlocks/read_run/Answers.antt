use Rattle.std.proofs.Common.{◌∙◌, ap, ◌+◌, ◌-◌, ◌*◌, take, drop, length, List, ℕ}
use Rattle.block_file.specs.CutLaws.{read_run_is}
use Rattle.block_file.proofs.mem.MemBlocksBlocks.read_run.Goals as goal

pub returns-clause-read : goal.returns-clause-read
returns-clause-read c =
    read_run_is c.args.self.now.count c.args.first (length c.args.bytes.now) c.args.self.now.bytes.items _
    c.args.self.now.whole c.requires
    (c.copy_from_slice.ensures.after ∙ ap
    (λ (d : List ℕ). take (512 * c.args.first + length c.args.bytes.now - 512 * c.args.first)
    (drop (512 * c.args.first) d))
    c.deref.ensures.value)
