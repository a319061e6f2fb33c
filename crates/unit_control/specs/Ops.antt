-- The kind of a command, also of one with a bad field, and what the kind alone decides.
use Rattle.std.specs.Prelude.{ℕ, Bool, false, Option, Some, None, Result, Ok, Err}
use Rattle.scsi_types.specs.declared.traits.Access.{Access}
use Rattle.scsi_types.specs.declared.traits.Access.TheVariants.{Other}
use Rattle.scsi_types.specs.declared.command.Command.{Command}
use Rattle.scsi_types.specs.declared.command.Command.TheVariants as commands
use Rattle.scsi_types.specs.declared.command.CdbFault.{CdbFault}
use Rattle.scsi_types.specs.declared.command.CdbFault.TheVariants.{UnknownOpcode, BadField}
use Rattle.scsi_types.specs.declared.command.Op.{Op}
use Rattle.scsi_types.specs.declared.command.Op.TheVariants as ops
use Rattle.scsi_types.specs.declared.pages.PageControl.{PageControl}
use Rattle.scsi_types.specs.Traits.{traits_of}

abbrev pub kind_of : Command → Op
kind_of commands.TestUnitReady = ops.TestUnitReady
kind_of (commands.RequestSense allocation) = ops.RequestSense
kind_of (commands.Inquiry page allocation) = ops.Inquiry
kind_of (commands.ModeSense header control page allocation) = ops.ModeSense
kind_of commands.ReadCapacity10 = ops.ReadCapacity
kind_of (commands.ReadCapacity16 allocation) = ops.ReadCapacity
kind_of (commands.Read lba blocks fua) = ops.Read
kind_of (commands.Write lba blocks fua) = ops.Write
kind_of (commands.CompareAndWrite lba blocks fua) = ops.CompareAndWrite
kind_of (commands.SynchronizeCache lba blocks) = ops.SynchronizeCache
kind_of (commands.PersistentReserveIn action allocation) = ops.PersistentReserveIn
kind_of (commands.PersistentReserveOut action scope kind list_length) = ops.PersistentReserveOut
kind_of (commands.ReportLuns select allocation) = ops.ReportLuns
kind_of (commands.ReportTargetPortGroups allocation) = ops.ReportTargetPortGroups
kind_of (commands.SetTargetPortGroups list_length) = ops.SetTargetPortGroups

-- an unknown operation code is of no kind
abbrev pub kind_asked : Result Command CdbFault → Option Op
kind_asked (Ok command) = Some (kind_of command)
kind_asked (Err (BadField op)) = Some op
kind_asked (Err UnknownOpcode) = None

-- a command that a pending attention lets pass (SAM-5, 5.14)
abbrev pub passes_attention : Option Op → Bool
passes_attention None = false
passes_attention (Some op) = (traits_of op).passes_attention

-- what a command does with the medium, as a reservation sees it (SPC-4, 5.13.1)
abbrev pub access_of : Option Op → Access
access_of None = Other
access_of (Some op) = (traits_of op).access

-- the parameter list of a command, with its PARAMETER LIST LENGTH: that of PERSISTENT RESERVE OUT (SPC-4, 6.16.3), or of SET
-- TARGET PORT GROUPS (SPC-4, 6.45)
pub data ParameterList : Type 0 where
  NoList : ParameterList
  ReserveList : ℕ → ParameterList
  GroupsList : ℕ → ParameterList

-- what else than a range of blocks a command has in its CDB that it may be refused for: nothing, a parameter list, or which values of
-- mode pages it asks for
pub data Parameter : Type 0 where
  NoParameter : Parameter
  ListParameter : ParameterList → Parameter
  PageParameter : PageControl → Parameter

abbrev pub parameter_of : Command → Parameter
parameter_of commands.TestUnitReady = NoParameter
parameter_of (commands.RequestSense allocation) = NoParameter
parameter_of (commands.Inquiry page allocation) = NoParameter
parameter_of (commands.ModeSense header control page allocation) = PageParameter control
parameter_of commands.ReadCapacity10 = NoParameter
parameter_of (commands.ReadCapacity16 allocation) = NoParameter
parameter_of (commands.Read lba blocks fua) = NoParameter
parameter_of (commands.Write lba blocks fua) = NoParameter
parameter_of (commands.CompareAndWrite lba blocks fua) = NoParameter
parameter_of (commands.SynchronizeCache lba blocks) = NoParameter
parameter_of (commands.PersistentReserveIn action allocation) = NoParameter
parameter_of (commands.PersistentReserveOut action scope kind list_length) = ListParameter (ReserveList list_length)
parameter_of (commands.ReportLuns select allocation) = NoParameter
parameter_of (commands.ReportTargetPortGroups allocation) = NoParameter
parameter_of (commands.SetTargetPortGroups list_length) = ListParameter (GroupsList list_length)

abbrev pub list_in : Parameter → ParameterList
list_in NoParameter = NoList
list_in (ListParameter list) = list
list_in (PageParameter control) = NoList

abbrev pub list_of : Command → ParameterList
list_of command = list_in (parameter_of command)

abbrev pub list_asked : Result Command CdbFault → ParameterList
list_asked (Ok command) = list_of command
list_asked (Err fault) = NoList
