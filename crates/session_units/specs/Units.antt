-- What the calls of a session at a unit promise, said of the unit's one history (`unit_history`).
use Rattle.std.specs.Prelude.{◌≡◌, ◌⊎◌, ℕ, Bool, false, List, MatchBool, Result, Ok, Err}
use Rattle.unit_lock.specs.Calls.{Known}
use Rattle.scsi_types.specs.ReplyValue.{ReplyValue}
use Rattle.scsi_types.specs.declared.names.Group.{Group}
use Rattle.scsi_types.specs.declared.command.Command.{Command as ScsiCommand}
use Rattle.scsi_types.specs.declared.command.CdbFault.{CdbFault}
use Rattle.unit_control.specs.State.{UnitState}
use Rattle.unit_control.specs.Entry.{Entry}
use Rattle.unit_entries.specs.Histories.{IsHistory}
use Rattle.unit_history.specs.Calls.{HasServed, HasRefused, HasReset, WasGone, HasRetired}
use Rattle.session_units.specs.declared.units.Unserved.{Unserved}
use Rattle.session_units.specs.declared.units.Unserved.TheVariants.{ByUnit, ByDesk}

-- What is known of the devices of units: whether their types claim what is said of a disk; and what became of a unit's in a command
-- that was served, the last entry of a history, which is said of the state that the unit opened in, the session, the command with
-- its data, the reply and that history. And that a session, by its number, has left a unit where this history was seen: nothing but
-- its end there says so.
pub record Claims : Type 1 where
  pub contents : Bool
  pub worked : UnitState → ℕ → Result ScsiCommand CdbFault → List ℕ → ReplyValue → List Entry → Type 0
  pub left : UnitState → ℕ → List Entry → Type 0

-- of a device of any kind nothing is known
abbrev pub any_device : Claims
any_device =
    record { contents = false; worked = λ s session asked bytes reply history. Unit {0}; left = λ s session history. Unit {0} }

-- a unit that opened in this state, over devices of which so much is known
module _ (claims : Claims) (s : UnitState) where
  -- What a command comes to that is submitted to this group. Where the group's desk does not take it, no unit was asked: the pass is
  -- as it was, and has seen what it had seen.
  abbrev pub IsSubmitted : Known Entry → Group → Result ScsiCommand CdbFault → List ℕ → Result ReplyValue Unserved → Known Entry
      → Type 0
  IsSubmitted old by asked bytes (Ok reply) new =
      HasServed claims.contents s old new by asked bytes reply × claims.worked s old.session asked bytes reply new.seen
  IsSubmitted old by asked bytes (Err (ByUnit why)) new = HasRefused claims.contents s old new by asked bytes why
  IsSubmitted old by asked bytes (Err (ByDesk why)) new = (new ≡ old) × IsHistory claims.contents s old.seen

  -- the session has reset the unit, or it is gone
  abbrev pub IsResetBy : Known Entry → Bool → Known Entry → Type 0
  IsResetBy old done new = MatchBool done (HasReset claims.contents s old new) (WasGone claims.contents s old new)

  -- The session has ended at the unit. This was seen there: a legal history that begins with all that the session had seen, behind
  -- which it is not attached; or, where it was gone before, one that shows that.
  abbrev pub IsRetired : Known Entry → List Entry → Type 0
  IsRetired old history =
      (HasRetired claims.contents s old history
      ⊎ ((new : Known Entry) × (new.seen ≡ history) × WasGone claims.contents s old new))
      × claims.left s old.session history
