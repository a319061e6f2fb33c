use Rattle.disk_files.specs.System.{a_read_says}
use Rattle.disk_files.proofs.system.SystemFileBackingFile.read_at.Goals as goal

pub returns-in-Ok-clause-said : goal.returns-in-Ok-clause-said
returns-in-Ok-clause-said c = a_read_says _ _ _
