use Rattle.disk_files.specs.BackingLaws.{block_is}
use Rattle.disk_files.proofs.laws.a_block_lies_at_its_place.Goals as goal

pub returns : goal.returns
returns g c k claims lt =
    let d = c.args.device.now in
    block_is d.count (g.F.BackingFile.bytes d.file) (d.whole claims) k lt
