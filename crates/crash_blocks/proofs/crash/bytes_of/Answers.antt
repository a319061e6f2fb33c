use Rattle.std.proofs.Common.{arith, sym, ◌∙◌, ap, ◌/◌, length, drop}
use Rattle.std.proofs.lemmas.List.{take_at}
use Rattle.block_file.specs.Cut.{cut}
use Rattle.crash_blocks.specs.Moments.{as_copied}
use Rattle.crash_blocks.proofs.crash.bytes_of.Goals as goal

pub returns-clause-contents : goal.returns-clause-contents
returns-clause-contents c =
    as_copied c.args.device.now.count (length c.deref_mut.result.now / 512) c.args.device.now.bytes.items
    c.read_run.new.bytes c.args.device.now.whole (omega (arith, c.in_ok-bytes.ensures.len, c.count.ensures)) c.read_run.ensures.read
    ∙ ap (cut c.args.device.now.count)
    (sym (take_at c.read_run.new.bytes (drop (length c.read_run.new.bytes) c.in_ok-bytes.bytes.items)
    c.in_ok-bytes.bytes.len (omega arith)))
