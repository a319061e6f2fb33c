-- What the kind of a command alone decides.
use Rattle.std.specs.Prelude.{Bool, true, false}
use Rattle.scsi_types.specs.declared.command.Op.{Op}
use Rattle.scsi_types.specs.declared.command.Op.TheVariants as ops
use Rattle.scsi_types.specs.declared.traits.Access.{Access}
use Rattle.scsi_types.specs.declared.traits.Access.TheVariants.{Read, Write, Other}
use Rattle.scsi_types.specs.declared.traits.ServedIn.{ServedIn}
use Rattle.scsi_types.specs.declared.traits.ServedIn.TheVariants.{Active, Standby, Unavailable}
use Rattle.scsi_types.specs.declared.traits.Traits.{Traits}

-- in which states of its group it is served, whether a pending attention lets it pass, and how it uses the medium
abbrev pub row : ServedIn → Bool → Access → Traits
row states passes access = record { served_in = states; passes_attention = passes; access = access }

-- Of each kind of command: where it is served (SPC-4, 5.15.2.4), what passes an attention (SAM-5, 5.14), and what a reservation
-- sees (SPC-4, 5.13.1), for which a flush counts as a write, and so does a change of access states.
abbrev pub traits_of : Op → Traits
traits_of ops.TestUnitReady = row Active false Other
traits_of ops.RequestSense = row Unavailable true Other
traits_of ops.Inquiry = row Unavailable true Other
traits_of ops.ModeSense = row Standby false Other
traits_of ops.ReadCapacity = row Active false Other
traits_of ops.Read = row Active false Read
traits_of ops.Write = row Active false Write
traits_of ops.CompareAndWrite = row Active false Write
traits_of ops.SynchronizeCache = row Active false Write
traits_of ops.PersistentReserveIn = row Standby false Other
traits_of ops.PersistentReserveOut = row Standby false Other
traits_of ops.ReportLuns = row Unavailable true Other
traits_of ops.ReportTargetPortGroups = row Unavailable false Other
traits_of ops.SetTargetPortGroups = row Unavailable false Write
