-- REQUEST SENSE parameter data (SPC-4, 6.39): sense data in its fixed format.
use Rattle.std.specs.Prelude.{Option, Some, None}
use Rattle.scsi_types.specs.Attention.{attention_sense}
use Rattle.scsi_types.specs.Sense.{no_sense}
use Rattle.scsi_types.specs.declared.attention.UnitAttention.{UnitAttention}
use Rattle.scsi_types.specs.declared.sense.Sense.{Sense}

-- the unit attention condition that is told, or that there is none
abbrev pub told_sense : Option UnitAttention → Sense
told_sense (Some attention) = attention_sense attention
told_sense None = no_sense
