-- Commands whose flush comes behind them, without the unit's lock (SBC-3, FUA of WRITE and of COMPARE AND WRITE, SYNCHRONIZE CACHE
-- commands): what the unit is asked in their place, what they are told, and what their entries stand for.
use Rattle.std.specs.Prelude.{◌≡◌, ◌⊎◌, ℕ, ◌+◌, ◌-◌, Bool, true, false, List, Result, Ok}
use Rattle.scsi_types.specs.ReplyValue.{ReplyValue, check}
use Rattle.scsi_types.specs.Sense.{write_error}
use Rattle.scsi_types.specs.declared.names.Group.{Group}
use Rattle.scsi_types.specs.declared.command.Command.{Command as ScsiCommand}
use Rattle.scsi_types.specs.declared.command.Command.TheVariants as commands
use Rattle.scsi_types.specs.declared.command.CdbFault.{CdbFault}
use Rattle.scsi_types.specs.declared.status.Status.TheVariants.{Good}
use Rattle.unit_control.specs.State.{UnitState}
use Rattle.unit_control.specs.Choice.{Choice}
use Rattle.unit_control.specs.Entry.{Entry, Command, IsPossible, after}
use Rattle.unit_state.specs.History.{state_after}
use Rattle.unit_entries.specs.Histories.{IsToldBehind}

-- a command that ends with a flush, by its LBA and its number of blocks
pub data Flushing : Type 0 where
  writes : ℕ → ℕ → Flushing
  compares : ℕ → ℕ → Flushing
  synchronizes : ℕ → ℕ → Flushing

-- the command
abbrev pub asked_by : Flushing → ScsiCommand
asked_by (writes lba blocks) = commands.Write lba blocks true
asked_by (compares lba blocks) = commands.CompareAndWrite lba blocks true
asked_by (synchronizes lba blocks) = commands.SynchronizeCache lba blocks

-- What its unit is asked in its place: the same without FUA; and SYNCHRONIZE CACHE, which is a write of no block, so many of none at
-- the last block of its range.
abbrev pub served_by : Flushing → ScsiCommand
served_by (writes lba blocks) = commands.Write lba blocks false
served_by (compares lba blocks) = commands.CompareAndWrite lba blocks false
served_by (synchronizes lba blocks) = commands.Write (lba + (blocks - 1)) 0 false

abbrev pub IsUnflushed : Result ScsiCommand CdbFault → Result ScsiCommand CdbFault → Type 0
IsUnflushed asked served = (f : Flushing) × (asked ≡ Ok (asked_by f)) × (served ≡ Ok (served_by f))

-- What is told in place of a reply: it, and GOOD only behind a flush; or, in place of GOOD, that the flush has failed.
abbrev pub IsToldBehindFlush : Type 0 → ReplyValue → ReplyValue → Type 0
IsToldBehindFlush lasts reply told =
    ((told ≡ reply) × (reply.status ≡ Good → lasts))
    ⊎ ((reply.status ≡ Good) × (told ≡ check write_error))

-- The entry behind this history, of a unit that opened in a state, stands for a command whose flush came behind it. The command as it
-- was asked could stand in its place, over any device, with this choice: it is possible there, leaves the unit as the entry does, and
-- is answered so. It is what was told in place of the entry's reply, GOOD only behind such a flush.
pub record HasLateFlush (claims : Bool) (lasts : Type 0) (s : UnitState) (before : List Entry) (session serial : ℕ) (by : Group)
    (served : Result ScsiCommand CdbFault) (bytes : List ℕ) (choice : Choice) (asked : Result ScsiCommand CdbFault) (told : ReplyValue)
    : Type 0 where
  pub unflushed : IsUnflushed asked served
  pub end : Choice
  pub possible : IsPossible false (state_after s before) (Command session serial by asked bytes end)
  pub same : after (state_after s before) (Command session serial by asked bytes end)
      ≡ after (state_after s before) (Command session serial by served bytes choice)
  pub answered : IsToldBehind false s before (Command session serial by asked bytes end) told
  pub first : ReplyValue
  pub replied_first : IsToldBehind claims s before (Command session serial by served bytes choice) first
  pub told_is : IsToldBehindFlush lasts first told
