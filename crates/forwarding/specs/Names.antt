-- What a command is known by on its way.
use Rattle.std.specs.Prelude.{Result}
use Rattle.unit_lock.specs.Calls.{PlacedPass}
use Rattle.scsi_types.specs.declared.names.Group.{Group}
use Rattle.scsi_types.specs.declared.command.Command.{Command as ScsiCommand}
use Rattle.scsi_types.specs.declared.command.CdbFault.{CdbFault}
use Rattle.unit_control.specs.Entry.{Entry}
use Rattle.desk_jobs.specs.declared.names.Names.{Names}

-- the next command of the session with this pass, at the desk of a group
abbrev pub names_of : PlacedPass Entry → Result ScsiCommand CdbFault → Group → Names
names_of held asked by_group =
    record { place = held.place; session = held.pass.session; serial = held.pass.serial; by_group = by_group; asked = asked }
