use Rattle.block_file.specs.Cut.{cut, run_of}
use Rattle.block_file.specs.CutLaws.{write_run_is, between_run, adds_run}
use Rattle.block_file.proofs.mem.MemBlocksBlocks.write_run.Goals as goal

pub returns-clause-written : goal.returns-clause-written
returns-clause-written c =
    write_run_is c.args.self.now.count c.args.first c.args.self.now.bytes.items _ c.args.bytes.now
    c.args.self.now.whole c.requires c.put.ensures

pub returns-clause-torn : goal.returns-clause-torn
returns-clause-torn c =
    between_run c.args.self.now.count c.args.first c.args.self.now.bytes.items c.args.bytes.now _ c.requires
    (write_run_is c.args.self.now.count c.args.first c.args.self.now.bytes.items _ c.args.bytes.now
    c.args.self.now.whole c.requires c.put.ensures)

pub returns-clause-crash : goal.returns-clause-crash
returns-clause-crash c =
    adds_run (cut c.args.self.now.count c.args.self.now.bytes.items) c.args.first (run_of c.args.bytes.now) _
    (between_run c.args.self.now.count c.args.first c.args.self.now.bytes.items c.args.bytes.now _ c.requires
    (write_run_is c.args.self.now.count c.args.first c.args.self.now.bytes.items _ c.args.bytes.now
    c.args.self.now.whole c.requires c.put.ensures))
