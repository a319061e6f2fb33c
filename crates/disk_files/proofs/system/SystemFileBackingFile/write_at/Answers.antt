use Rattle.disk_files.specs.System.{a_write_says, a_write_ends}
use Rattle.disk_files.proofs.system.SystemFileBackingFile.write_at.Goals as goal

pub returns-in-Ok-clause-said : goal.returns-in-Ok-clause-said
returns-in-Ok-clause-said c = a_write_says _ _ _

pub returns-in-Ok-clause-ended : goal.returns-in-Ok-clause-ended
returns-in-Ok-clause-ended c = a_write_ends _

pub returns-in-Err-clause-ended : goal.returns-in-Err-clause-ended
returns-in-Err-clause-ended c = a_write_ends _
