use Rattle.disk_files.specs.System.{a_flush_says}
use Rattle.disk_files.proofs.system.SystemFile.sync.Goals as goal

pub returns-in-Ok : goal.returns-in-Ok
returns-in-Ok c = a_flush_says _ _
