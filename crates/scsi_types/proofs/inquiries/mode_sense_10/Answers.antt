use Rattle.scsi_types.proofs.inquiries.mode_sense_10.Goals as goal

pub returns-in_default : goal.returns-in_default
returns-in_default c = λ command asked. c.in_default.ensures asked.0 asked.1 asked.2
