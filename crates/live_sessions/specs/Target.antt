-- The target of a session: how it begins at all units, what it asks of them, and how it is over (RFC 7143, 6.3).
use Rattle.std.specs.Prelude.{◌≡◌, ℕ, ◌+◌, ◌<◌, ◌≤◌, Bool, true, false, List, [], ◌∷◌, ◌++◌, length, slice_get, slice_set}
use Rattle.std.specs.Prelude.{Option, Some, None, MatchOption, Result, Ok, Err}
use Rattle.identity.specs.Absent.{absent_reply}
use Rattle.login.specs.declared.status.SessionType.{SessionType}
use Rattle.login.specs.declared.status.SessionType.TheVariants.{Normal, Discovery}
use Rattle.registrants.specs.Nexus.{through}
use Rattle.scsi_types.specs.Nexus.{IsPortName}
use Rattle.scsi_types.specs.Nexus.{Port, Nexus}
use Rattle.scsi_types.specs.declared.names.Group.{Group}
use Rattle.scsi_types.specs.declared.command.Command.{Command as ScsiCommand}
use Rattle.scsi_types.specs.declared.command.CdbFault.{CdbFault}
use Rattle.scsi_types.specs.declared.status.Status.TheVariants.{Good}
use Rattle.session_rules.specs.Asking.{Asking, began, lives, served, reset, over}
use Rattle.session_rules.specs.declared.target.BeginAnswer.TheVariants.{Begun, Refused}
use Rattle.session_rules.specs.declared.target.TargetAnswer.{TargetAnswer}
use Rattle.session_rules.specs.declared.target.TargetAnswer.TheVariants.{Replied, Outside, Busy, Gone}
use Rattle.session_rules.specs.declared.target.ResetAnswer.{ResetAnswer}
use Rattle.session_rules.specs.declared.target.ResetAnswer.TheVariants as resets
use Rattle.unit_control.specs.State.{UnitState}
use Rattle.unit_history.specs.Calls.{HasAttached, HasNoRoom}
use Rattle.unit_control.specs.Entry.{Entry}
use Rattle.session_units.specs.Late.{Late}
use Rattle.live_sessions.specs.Sessions.{Sayings}
use Rattle.session_units.specs.Units.{Claims, IsRetired}
use Rattle.session_units.specs.Submitted.{At, IsServed, IsResetAnswer}
use Rattle.live_sessions.specs.declared.live.EnterFault.{EnterFault}
use Rattle.live_sessions.specs.declared.live.EnterFault.TheVariants as enters
use Rattle.live_sessions.specs.declared.target.BeginFault.{BeginFault}
use Rattle.live_sessions.specs.declared.target.BeginFault.TheVariants as faults

-- whether what was in a slot was taken out
abbrev pub is_taken : {C : Type 0} → Option C → Bool
is_taken (Some c) = false
is_taken None = true

-- What was seen of a unit: its place, and a history of it.
abbrev pub Sight : Type 0
Sight = ℕ × List Entry

-- What contracts see of it: how many units there are; the group of the portals by which its initiator came; whether it was asked to
-- begin, as it is once; whether the session has begun, and its number in the table of those that live, until it is over; the session
-- at each unit in order, from its beginning to its end; and what was seen of units as it left them, or was refused there. A discovery
-- session is at none.
pub record TargetValue : Type 0 where
  pub units : ℕ
  pub group : Group
  pub asked : Bool
  pub begun : Bool
  pub number : Option ℕ
  pub at : List At
  pub seen : List Sight

-- no session has begun
abbrev pub unbegun : ℕ → Group → TargetValue
unbegun units group =
    record { units = units; group = group; asked = false; begun = false; number = None; at = []; seen = [] }

-- the reply for a unit that is not there, or that there was no memory for it
abbrev pub IsAbsent : Result ScsiCommand CdbFault → TargetAnswer → Type 0
IsAbsent asked (Replied reply) = ⊥
IsAbsent asked (Outside reply) = reply ≡ absent_reply asked
IsAbsent asked Busy = (absent_reply asked).status ≡ Good
IsAbsent asked Gone = ⊥

-- why a session that is attached does not enter the table of those that live
abbrev pub fault_of : EnterFault → BeginFault
fault_of enters.NoTsih = faults.NoTsih
fault_of enters.NoNumber = faults.NoNumber
fault_of enters.NoMemory = faults.NoMemory

-- units that opened in these states by their places, over devices whose types claim what is said of a disk or not
module _ (claims : Claims) (opening : ℕ → UnitState) where
  -- the session of this nexus has attached to this unit, through the group that it believes to own it
  pub record IsAttachedTo (nexus : Nexus) (unit : ℕ) (a : At) : Type 0 where
    pub place : a.place ≡ unit
    pub attached : HasAttached claims.contents (opening unit) nexus a.pass
    pub by_is : a.by_group ≡ nexus.group

  -- and to each in order, from this one on
  abbrev pub AreAttached : Nexus → ℕ → List At → Type 0
  AreAttached nexus unit [] = Unit {0}
  AreAttached nexus unit (a ∷ at) = IsAttachedTo nexus unit a × AreAttached nexus (unit + 1) at

  -- it is over at a unit, where this was seen then
  abbrev pub IsOverAt : At → Sight → Type 0
  IsOverAt a seen = (seen.0 ≡ a.place) × IsRetired claims (opening a.place) a.pass seen.1

  -- and at each of these, in order
  abbrev pub AreOver : List At → List Sight → Type 0
  AreOver [] [] = Unit {0}
  AreOver [] (one ∷ seen) = ⊥
  AreOver (a ∷ at) [] = ⊥
  AreOver (a ∷ at) (one ∷ seen) = IsOverAt a one × AreOver at seen

  -- of what was seen so much is new, as it was over at each of these
  pub record Leaves (at : List At) (old new : List Sight) : Type 0 where
    pub seen : List Sight
    pub over : AreOver at seen
    pub ends : new ≡ old ++ seen

  -- A normal session is attached to all units; a discovery session serves no commands, and is attached to none (RFC 7143, 4.3).
  abbrev pub IsJoined : SessionType → Nexus → ℕ → List At → Type 0
  IsJoined Normal nexus units at = (length at ≡ units) × AreAttached nexus 0 at
  IsJoined Discovery nexus units at = at ≡ []

  -- this was seen of this unit: behind it no session of the nexus has room
  abbrev pub IsFullAt : Nexus → ℕ → Sight → Type 0
  IsFullAt nexus unit seen = (seen.0 ≡ unit) × HasNoRoom claims.contents (opening unit) nexus seen.1

  -- Why it may not begin, and what was seen then of a unit: it was asked before; it has no name of a port; this unit had no room for one
  -- that is normal; its connection was over when its turn came; there was no TSIH or no number for it, which is asked once it is attached to all; or there was no memory.
  abbrev pub IsCauseOf : Nexus → SessionType → ℕ → List At → BeginFault → List Sight → Type 0
  IsCauseOf nexus kind units at faults.Begun seen = (at ≡ []) × (seen ≡ [])
  IsCauseOf nexus kind units at faults.NoPortName seen = (at ≡ []) × (seen ≡ []) × (IsPortName nexus.port → ⊥)
  IsCauseOf nexus kind units at (faults.NoRoom unit) seen =
      (kind ≡ Normal) × (length at ≡ unit) × ((one : Sight) × (seen ≡ one ∷ []) × IsFullAt nexus unit one)
  IsCauseOf nexus kind units at faults.Left seen = (kind ≡ Normal) × (at ≡ []) × (seen ≡ [])
  IsCauseOf nexus kind units at faults.NoTsih seen = IsJoined kind nexus units at × (seen ≡ [])
  IsCauseOf nexus kind units at faults.NoNumber seen = IsJoined kind nexus units at × (seen ≡ [])
  IsCauseOf nexus kind units at faults.NoMemory seen = seen ≡ []

  -- It may not begin: where it was attached to units, it is over at each of them. Of what was seen so much is new.
  pub record IsTurnedBack (nexus : Nexus) (kind : SessionType) (units : ℕ) (fault : BeginFault) (old new : List Sight)
      : Type 0 where
    pub at : List At
    pub attached : AreAttached nexus 0 at
    pub left : List Sight
    pub over : AreOver at left
    pub full : List Sight
    pub cause : IsCauseOf nexus kind units at fault full
    pub ends : new ≡ (old ++ left) ++ full

  -- a unit is reset through the session at that unit, and no other; a session that is not attached to it is gone
  abbrev pub IsResetIn : TargetValue → ℕ → ResetAnswer → TargetValue → Type 0
  IsResetIn old unit answer new =
      MatchOption (slice_get old.at unit) ((answer ≡ resets.Gone) × (new ≡ old))
      (λ a. (after : At) × IsResetAnswer claims opening a answer after
      × (new ≡ record old { at = slice_set old.at unit after }))

  abbrev pub IsReset : TargetValue → ℕ → ResetAnswer → TargetValue → Type 0
  IsReset old unit answer new =
      (unit < old.units → IsResetIn old unit answer new)
      × (old.units ≤ unit → (answer ≡ resets.Failed) × (new ≡ old))

-- a cause that lies in the units, or in memory
abbrev pub IsOfUnits : BeginFault → Type 0
IsOfUnits faults.Begun = ⊥
IsOfUnits faults.NoPortName = ⊥
IsOfUnits (faults.NoRoom unit) = Unit {0}
IsOfUnits faults.Left = ⊥
IsOfUnits faults.NoTsih = ⊥
IsOfUnits faults.NoNumber = ⊥
IsOfUnits faults.NoMemory = Unit {0}

-- a cause that lies in the port's name, or in memory
abbrev pub IsUnnamed : Port → BeginFault → Type 0
IsUnnamed port faults.Begun = ⊥
IsUnnamed port faults.NoPortName = IsPortName port → ⊥
IsUnnamed port (faults.NoRoom unit) = ⊥
IsUnnamed port faults.Left = ⊥
IsUnnamed port faults.NoTsih = ⊥
IsUnnamed port faults.NoNumber = ⊥
IsUnnamed port faults.NoMemory = Unit {0}

-- What stands behind a cause beside the units: it was asked before; or the table of the sessions that live says that it has no TSIH or
-- no number.
abbrev pub IsGrounded : Sayings → Bool → BeginFault → Type 0
IsGrounded table asked faults.Begun = asked ≡ true
IsGrounded table asked faults.NoPortName = Unit {0}
IsGrounded table asked (faults.NoRoom unit) = Unit {0}
IsGrounded table asked faults.Left = Unit {0}
IsGrounded table asked faults.NoTsih = table.refused enters.NoTsih
IsGrounded table asked faults.NoNumber = table.refused enters.NoNumber
IsGrounded table asked faults.NoMemory = Unit {0}

-- beside a table of the sessions that live
module _ (claims : Claims) (table : Sayings) (opening : ℕ → UnitState) where
  -- It has begun: it is attached to what its kind is attached to, and lives by this TSIH, as the table says.
  pub record HasBegun (old : TargetValue) (port : Port) (kind : SessionType) (tsih : ℕ) (new : TargetValue) : Type 0 where
    pub name : IsPortName port
    pub first : old.asked ≡ false
    pub fresh : (old.begun ≡ false) × (old.at ≡ []) × (old.seen ≡ [])
    pub joined : IsJoined claims opening kind (through port old.group) old.units new.at
    pub number : ℕ
    pub entered : table.entered (through port old.group) kind number tsih
    pub rest : new ≡ record old { asked = true; begun = true; number = Some number; at = new.at }

  -- It does not begin, and is as it was but for what was seen of units, and that it was asked; one that had begun before sees no more.
  pub record IsRefused (old : TargetValue) (port : Port) (kind : SessionType) (fault : BeginFault) (new : TargetValue)
      : Type 0 where
    pub turned_back : IsTurnedBack claims opening (through port old.group) kind old.units fault old.seen new.seen
    pub grounds : IsGrounded table old.asked fault
    pub again : old.begun ≡ true → new ≡ old
    pub rest : new ≡ record old { asked = true; seen = new.seen }

  -- It was asked to begin: its TSIH, or why it may not.
  abbrev pub HasTried : TargetValue → Port → SessionType → Result ℕ BeginFault → TargetValue → Type 0
  HasTried old port kind (Ok tsih) new = (0 < tsih) × HasBegun old port kind tsih new
  HasTried old port kind (Err fault) new = IsRefused old port kind fault new

  -- It is over at all its units, and in the table, where it lived.
  pub record IsOver (old new : TargetValue) : Type 0 where
    pub ended : Leaves claims opening old.at old.seen new.seen
    pub left : MatchOption old.number (Unit {0}) table.left
    pub rest : new ≡ record old { number = None; at = []; seen = new.seen }

-- behind a gate to which flushes may be left
module _ (claims : Claims) (late : Late) (opening : ℕ → UnitState) where
  -- A command of a unit is served through the session at that unit, and no other; a session that is not attached to it is gone.
  abbrev pub IsServedAt : TargetValue → ℕ → Result ScsiCommand CdbFault → List ℕ → TargetAnswer → TargetValue → Type 0
  IsServedAt old unit asked bytes answer new =
      MatchOption (slice_get old.at unit) ((answer ≡ Gone) × (new ≡ old))
      (λ a. (after : At) × IsServed claims late opening a asked bytes answer after
      × (new ≡ record old { at = slice_set old.at unit after }))

  abbrev pub IsAnswered : TargetValue → Option ℕ → Result ScsiCommand CdbFault → List ℕ → TargetAnswer → TargetValue → Type 0
  IsAnswered old None asked bytes answer new = IsAbsent asked answer × (new ≡ old)
  IsAnswered old (Some unit) asked bytes answer new =
      (unit < old.units → IsServedAt old unit asked bytes answer new)
      × (old.units ≤ unit → IsAbsent asked answer × (new ≡ old))

-- beside a table of the sessions that live
module _ (claims : Claims) (table : Sayings) (late : Late) (opening : ℕ → UnitState) where
  -- where a question with its answer leads the target
  abbrev pub LeadsOn : TargetValue → Asking → TargetValue → Type 0
  LeadsOn old (began port kind (Begun tsih)) new = HasBegun claims table opening old port kind tsih new
  LeadsOn old (began port kind Refused) new = (fault : BeginFault) × IsRefused claims table opening old port kind fault new
  LeadsOn old (lives tsih port answer) new = table.lived tsih port answer × (new ≡ old)
  LeadsOn old (served unit asked bytes answer) new = IsAnswered claims late opening old unit asked bytes answer new
  LeadsOn old (reset unit answer) new = IsReset claims opening old unit answer new
  LeadsOn old over new = IsOver claims table opening old new
