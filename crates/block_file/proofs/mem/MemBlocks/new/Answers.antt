use Rattle.std.proofs.Common.{◌∙◌, ap}
use Rattle.block_file.specs.Cut.{cut}
use Rattle.block_file.specs.CutLaws.{cut_zeros}
use Rattle.block_file.proofs.mem.MemBlocks.new.Goals as goal

pub returns-clause-zeros : goal.returns-clause-zeros
returns-clause-zeros c = ap (cut c.args.count) (c.in_ok-bytes.ensures.items_if_clones_equal (λ y h. h))
    ∙ cut_zeros c.args.count
