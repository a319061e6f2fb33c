-- How a session has a command served by a unit that may have moved: what its worker submits, and what it answers.
use Rattle.std.specs.Prelude.{◌≡◌, ◌⊎◌, ℕ, Bool, true, false, IsTrue, List, Result, Ok, Err}
use Rattle.unit_lock.specs.Calls.{Known, PlacedPass}
use Rattle.forwarding.specs.declared.desk.DeskFault.TheVariants as desks
use Rattle.unit_lock.specs.declared.machine.Refused.TheVariants as refusals
use Rattle.scsi_types.specs.ReplyValue.{ReplyValue}
use Rattle.scsi_types.specs.declared.names.Group.{Group}
use Rattle.scsi_types.specs.declared.command.Command.{Command as ScsiCommand}
use Rattle.scsi_types.specs.declared.command.CdbFault.{CdbFault}
use Rattle.session_rules.specs.declared.target.TargetAnswer.{TargetAnswer}
use Rattle.session_rules.specs.declared.target.TargetAnswer.TheVariants.{Replied, Busy, Gone}
use Rattle.session_rules.specs.declared.target.ResetAnswer.{ResetAnswer}
use Rattle.session_rules.specs.declared.target.ResetAnswer.TheVariants as resets
use Rattle.unit_control.specs.State.{UnitState}
use Rattle.unit_control.specs.Entry.{Entry}
use Rattle.unit_events.specs.Flushes.{IsUnflushed}
use Rattle.session_units.specs.Late.{Late, IsToldEnd}
use Rattle.session_units.specs.Units.{Claims, IsSubmitted, IsResetBy}
use Rattle.session_units.specs.declared.units.Unserved.{Unserved}
use Rattle.session_units.specs.declared.units.Unserved.TheVariants.{ByUnit, ByDesk}

-- A session at a unit: the unit's place, what the session knows of it, and the group that it believes to own it.
pub record At : Type 0 where
  pub place : ℕ
  pub pass : Known Entry
  pub by_group : Group

-- its pass
abbrev pub held_of : At → PlacedPass Entry
held_of a = record { place = a.place; pass = a.pass }

-- who is believed to own the unit behind a call that was made by this group: a Moved names the owner
abbrev pub believed : {R : Type 0} → Group → Result R Unserved → Group
believed by (Ok reply) = by
believed by (Err (ByUnit refusals.Gone)) = by
believed by (Err (ByUnit (refusals.Moved owner))) = owner
believed by (Err (ByUnit refusals.NoMemory)) = by
believed by (Err (ByDesk desks.Full)) = by
believed by (Err (ByDesk desks.Closed)) = by
believed by (Err (ByDesk desks.NoMemory)) = by

-- What the session is answered. BUSY (SAM-5, 5.3.1) tells of a desk that is full or closed, of want of memory, and of a second
-- Moved, and of nothing else.
abbrev pub answer_of : Result ReplyValue Unserved → TargetAnswer
answer_of (Ok reply) = Replied reply
answer_of (Err (ByUnit refusals.Gone)) = Gone
answer_of (Err (ByUnit (refusals.Moved owner))) = Busy
answer_of (Err (ByUnit refusals.NoMemory)) = Busy
answer_of (Err (ByDesk desks.Full)) = Busy
answer_of (Err (ByDesk desks.Closed)) = Busy
answer_of (Err (ByDesk desks.NoMemory)) = Busy

-- a command that came to this is submitted once more
abbrev pub is_moved : Result ReplyValue Unserved → Bool
is_moved (Ok reply) = false
is_moved (Err (ByUnit refusals.Gone)) = false
is_moved (Err (ByUnit (refusals.Moved owner))) = true
is_moved (Err (ByUnit refusals.NoMemory)) = false
is_moved (Err (ByDesk desks.Full)) = false
is_moved (Err (ByDesk desks.Closed)) = false
is_moved (Err (ByDesk desks.NoMemory)) = false

-- the unit that opened in a state by its place, over devices whose types claim what is said of a disk or not, behind a gate to which
-- flushes may be left
module _ (claims : Claims) (late : Late) (opening : ℕ → UnitState) where
  -- A command is submitted without its flush, which comes behind it: what it comes to is told by that too.
  pub record IsSettled (old : PlacedPass Entry) (by : Group) (asked : Result ScsiCommand CdbFault) (bytes : List ℕ)
      (end : Result ReplyValue Unserved) (new : PlacedPass Entry) : Type 0 where
    pub is_late : IsTrue late.is_late
    pub served : Result ScsiCommand CdbFault
    pub unflushed : IsUnflushed asked served
    pub first : Result ReplyValue Unserved
    pub call : IsSubmitted claims (opening old.place) old.pass by served bytes first new.pass
    pub told : IsToldEnd (late.lasts new) first end

  -- a command is submitted, as it was asked or without its flush
  abbrev pub IsCalled : PlacedPass Entry → Group → Result ScsiCommand CdbFault → List ℕ → Result ReplyValue Unserved → PlacedPass Entry
      → Type 0
  IsCalled old by asked bytes end new =
      IsSubmitted claims (opening old.place) old.pass by asked bytes end new.pass ⊎ IsSettled old by asked bytes end new

  -- a command is submitted once, to the group that is believed to own the unit
  pub record IsOnce (old : At) (asked : Result ScsiCommand CdbFault) (bytes : List ℕ) (end : Result ReplyValue Unserved)
      (new : At) : Type 0 where
    pub place : new.place ≡ old.place
    pub call : IsCalled (held_of old) old.by_group asked bytes end (held_of new)
    pub by_is : new.by_group ≡ believed old.by_group end

  -- a command that its unit has moved away from is submitted once more, to the group that was named
  pub record IsTwice (old : At) (asked : Result ScsiCommand CdbFault) (bytes : List ℕ) (end : Result ReplyValue Unserved)
      (new : At) : Type 0 where
    pub between : At
    pub first : Result ReplyValue Unserved
    pub moved : is_moved first ≡ true
    pub once : IsOnce old asked bytes first between
    pub again : IsOnce between asked bytes end new

  -- a command is served: it is submitted, once more where its unit has moved, and answered
  pub record IsServed (old : At) (asked : Result ScsiCommand CdbFault) (bytes : List ℕ) (answer : TargetAnswer)
      (new : At) : Type 0 where
    pub end : Result ReplyValue Unserved
    pub answer_is : answer ≡ answer_of end
    pub calls : (IsOnce old asked bytes end new × (is_moved end ≡ false)) ⊎ IsTwice old asked bytes end new

-- whatever is left to the gate
module _ (claims : Claims) (opening : ℕ → UnitState) where
  -- a reset of the unit, and what the session is answered
  pub record IsResetAt (done : Bool) (old new : At) : Type 0 where
    pub place : new.place ≡ old.place
    pub call : IsResetBy claims (opening old.place) old.pass done new.pass
    pub by_is : new.by_group ≡ old.by_group

  abbrev pub IsResetAnswer : At → ResetAnswer → At → Type 0
  IsResetAnswer old resets.Done new = IsResetAt true old new
  IsResetAnswer old resets.Gone new = IsResetAt false old new
  IsResetAnswer old resets.Failed new = ⊥
