use Rattle.scsi_types.proofs.Meaning.{one_meaning}
use Rattle.scsi_types.proofs.cdb.decode.Goals as goal

pub returns-in-Some-command_of-clause-only : goal.returns-in-Some-command_of-clause-only
returns-in-Some-command_of-clause-only c =
    λ asked q. one_meaning _ asked _ q (c.in-Some.form, c.in-Some.ensures, c.in-Some-command_of.ensures)

pub returns-in-None-command_of-clause-only : goal.returns-in-None-command_of-clause-only
returns-in-None-command_of-clause-only c =
    λ asked q. one_meaning _ asked _ q (c.in-Some.form, c.in-Some.ensures, c.in-None-command_of.ensures, c.op.ensures)
