use Rattle.std.proofs.Common.{length}
use Rattle.disk_files.specs.BackingLaws.{run_is_read, said_at}
use Rattle.disk_files.proofs.blocks.FileBlocksBlocks.read_run.Goals as goal

pub returns-in-Ok-clause-read : goal.returns-in-Ok-clause-read
returns-in-Ok-clause-read g c claims =
    let d = c.args.self.now in
    run_is_read d.count (g.F.BackingFile.bytes d.file) (d.whole claims) c.args.first c.at.result c.at.ensures
    (length c.args.bytes.now) _ c.requires (c.in-Ok.ensures.read claims)

pub returns-in-Ok-clause-said : goal.returns-in-Ok-clause-said
returns-in-Ok-clause-said g c =
    let F = g.F.BackingFile in
    said_at (F.has_read (F.node c.args.self.now.file)) _ _ _ c.at.ensures c.in-Ok.ensures.said
