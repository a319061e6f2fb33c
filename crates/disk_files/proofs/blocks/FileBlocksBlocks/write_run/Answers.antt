use Rattle.disk_files.specs.BackingLaws.{run_is_written, run_is_torn, run_adds, said_at}
use Rattle.disk_files.proofs.blocks.FileBlocksBlocks.write_run.Goals as goal

pub returns-in-Ok-clause-done : goal.returns-in-Ok-clause-done
returns-in-Ok-clause-done g c claims =
    let d = c.args.self.now in
    run_is_written d.count (g.F.BackingFile.bytes d.file) (d.whole claims) c.args.first c.at.result c.at.ensures
    c.args.bytes.now c.requires _ (c.in-Ok.ensures.written claims)

pub returns-in-Ok-clause-torn : goal.returns-in-Ok-clause-torn
returns-in-Ok-clause-torn g c claims =
    let d = c.args.self.now in
    run_is_torn d.count (g.F.BackingFile.bytes d.file) (d.whole claims) c.args.first c.at.result c.at.ensures
    c.args.bytes.now c.requires _ (c.in-Ok.ensures.torn claims)

pub returns-in-Ok-clause-crash : goal.returns-in-Ok-clause-crash
returns-in-Ok-clause-crash g c claims =
    let d = c.args.self.now in
    run_adds d.count (g.F.BackingFile.bytes d.file) (d.whole claims) c.args.first c.at.result c.at.ensures
    c.args.bytes.now c.requires _ _
    (λ k lt. g.met.F.BackingFile.is_outcome d.file k claims lt) (c.in-Ok.ensures.crash claims)

pub returns-in-Err-end-clause-torn : goal.returns-in-Err-end-clause-torn
returns-in-Err-end-clause-torn g c claims =
    let d = c.args.self.now in
    run_is_torn d.count (g.F.BackingFile.bytes d.file) (d.whole claims) c.args.first c.at.result c.at.ensures
    c.args.bytes.now c.requires _ (c.in-Err-end.ensures.torn claims)

pub returns-in-Err-end-clause-crash : goal.returns-in-Err-end-clause-crash
returns-in-Err-end-clause-crash g c claims =
    let d = c.args.self.now in
    run_adds d.count (g.F.BackingFile.bytes d.file) (d.whole claims) c.args.first c.at.result c.at.ensures
    c.args.bytes.now c.requires _ _
    (λ k lt. g.met.F.BackingFile.is_outcome d.file k claims lt) (c.in-Err-end.ensures.crash claims)

pub returns-in-Ok-clause-said : goal.returns-in-Ok-clause-said
returns-in-Ok-clause-said g c =
    let F = g.F.BackingFile in
    said_at (F.has_written (F.node c.args.self.now.file)) _ _ _ c.at.ensures c.in-Ok.ensures.said
