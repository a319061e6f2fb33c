-- Which of what a session asked are entries of a unit's history, and that these are all of its own there, in order. Then two words of the
-- laws that take several sessions together (`IsAttachOf`, `AreAlike`).
use Rattle.std.specs.Prelude.{◌≡◌, ◌⊎◌, ℕ, ◌<◌, ◌≤◌, false, true, IsTrue, nat_eq, if◌then◌else◌, List, [], ◌∷◌, ◌++◌, length, MatchBool}
use Rattle.std.specs.Prelude.{Some, None, Result, slice_get, take}
use Rattle.std.specs.List.{flat_map}
use Rattle.login.specs.declared.status.SessionType.TheVariants.{Normal}
use Rattle.registrants.specs.Nexus.{through}
use Rattle.scsi_types.specs.ReplyValue.{ReplyValue}
use Rattle.scsi_types.specs.Nexus.{Port, Nexus}
use Rattle.scsi_types.specs.declared.names.Group.{Group}
use Rattle.scsi_types.specs.declared.command.Command.{Command as ScsiCommand}
use Rattle.scsi_types.specs.declared.command.CdbFault.{CdbFault}
use Rattle.session_rules.specs.Asking.{Asking, began, lives, served, reset, over}
use Rattle.session_rules.specs.declared.target.BeginAnswer.TheVariants.{Begun}
use Rattle.session_rules.specs.declared.target.TargetAnswer.{TargetAnswer}
use Rattle.session_rules.specs.declared.target.TargetAnswer.TheVariants.{Replied, Outside, Busy, Gone}
use Rattle.session_rules.specs.declared.target.ResetAnswer.{ResetAnswer}
use Rattle.session_rules.specs.declared.target.ResetAnswer.TheVariants as resets
use Rattle.unit_control.specs.State.{UnitState}
use Rattle.unit_control.specs.Choice.{Choice}
use Rattle.unit_control.specs.Entry.{Entry, Attach, Detach, Reset, Move, Command, IsPossible, after}
use Rattle.unit_state.specs.History.{state_after}
use Rattle.unit_lock.specs.Calls.{PlacedPass}
use Rattle.status.specs.Views.{counted}
use Rattle.unit_entries.specs.Histories.{IsHistory, IsToldBehind, is_own, own}
use Rattle.unit_events.specs.Flushes.{HasLateFlush}
use Rattle.session_units.specs.Late.{Late, late_at}
use Rattle.session_units.specs.Units.{Claims}

-- a command that a unit replied to, or a reset of it that was done
pub data Done : Type 0 where
  replied : Result ScsiCommand CdbFault → List ℕ → ReplyValue → Done
  was_reset : Done

abbrev pub done_by : Result ScsiCommand CdbFault → List ℕ → TargetAnswer → List Done
done_by asked bytes (Replied reply) = replied asked bytes reply ∷ []
done_by asked bytes (Outside reply) = []
done_by asked bytes Busy = []
done_by asked bytes Gone = []

abbrev pub reset_by : ResetAnswer → List Done
reset_by resets.Done = was_reset ∷ []
reset_by resets.Gone = []
reset_by resets.Failed = []

-- what was done, where the unit that was named is this one; else nothing
abbrev pub of_unit : ℕ → ℕ → List Done → List Done
of_unit unit named done = if nat_eq named unit then done else []

abbrev pub done_in : ℕ → Asking → List Done
done_in unit (began port kind answer) = []
done_in unit (lives tsih port answer) = []
done_in unit (served None asked bytes answer) = []
done_in unit (served (Some named) asked bytes answer) = of_unit unit named (done_by asked bytes answer)
done_in unit (reset named answer) = of_unit unit named (reset_by answer)
done_in unit over = []

-- what was done at a unit, in order
abbrev pub done_at : ℕ → List Asking → List Done
done_at unit asks = flat_map (done_in unit) asks

-- How a history ends behind all that a session has done there: it has no entry of the session's own, as where another of its nexus has
-- attached and it was gone already; or just its Detach, as the last entry of all.
abbrev pub IsEnd : ℕ → List Entry → Type 0
IsEnd session rest =
    (counted own session rest ≡ 0)
    ⊎ ((others : List Entry) × (counted own session others ≡ 0) × (rest ≡ others ++ Detach session ∷ []))

-- a unit that opened in this state, over devices whose types claim what is said of a disk or not, behind a gate to which flushes may
-- be left
module _ (claims : Claims) (late : Late) (s : UnitState) where
  -- The entry behind this history stands for a command whose flush was left to the gate, and came behind it. GOOD was told only behind
  -- a flush that began when the session's pass had seen the entry.
  pub record IsLate (before : List Entry) (session serial : ℕ) (by : Group) (entered : Result ScsiCommand CdbFault) (bytes : List ℕ)
      (choice : Choice) (asked : Result ScsiCommand CdbFault) (reply : ReplyValue) : Type 0 where
    pub is_late : IsTrue late.is_late
    pub stands : HasLateFlush claims.contents ((pass : PlacedPass Entry)
        × (pass.pass.seen ≡ before ++ Command session serial by entered bytes choice ∷ []) × late.lasts pass)
        s before session serial by entered bytes choice asked reply

  -- The entry behind this history is this command, and the reply is what the model gives there; or it is the command without its flush
  -- (`IsLate`); or it is the reset.
  abbrev pub IsEntry : List Entry → Entry → Done → Type 0
  IsEntry before (Attach nexus) done = ⊥
  IsEntry before (Detach session) done = ⊥
  IsEntry before (Reset session) (replied asked bytes reply) = ⊥
  IsEntry before (Reset session) was_reset = Unit {0}
  IsEntry before (Move list choice) done = ⊥
  IsEntry before (Command session serial by entered bytes choice) (replied asked came reply) =
      (came ≡ bytes)
      × (((asked ≡ entered) × IsToldBehind claims.contents s before (Command session serial by entered bytes choice) reply)
      ⊎ IsLate before session serial by entered bytes choice asked reply)
  IsEntry before (Command session serial by entered bytes choice) was_reset = ⊥

  abbrev pub IsNextDone : List Entry → Entry → List Done → (List Done → Type 0) → Type 0
  IsNextDone before e [] rest = ⊥
  IsNextDone before e (done ∷ more) rest = IsEntry before e done × rest more

  -- A session's own entries behind a beginning of a history are what it has done there, in order, and nothing else: its own entry is the
  -- next that was done, and so on with the others; another's is passed over.
  abbrev pub AreEntries : ℕ → List Entry → List Done → List Entry → Type 0
  AreEntries session before done [] = done ≡ []
  AreEntries session before done (e ∷ behind) =
      MatchBool (is_own session e)
      (IsNextDone before e done (λ more. AreEntries session (before ++ e ∷ []) more behind))
      (AreEntries session (before ++ e ∷ []) done behind)

  -- In this legal history a session of this nexus has attached. Its own entries since are what it has done at the unit, in order,
  -- and its end. Its number is the place of its Attach; `claims.left` alone can say that it is this session which retired there.
  pub record HasDone (nexus : Nexus) (done : List Done) (history : List Entry) : Type 0 where
    pub before : List Entry
    pub behind : List Entry
    pub rest : List Entry
    pub legal : IsHistory claims.contents s history
    pub is : history ≡ ((before ++ Attach nexus ∷ []) ++ behind) ++ rest
    pub entries : AreEntries (length before) (before ++ Attach nexus ∷ []) done behind
    pub ends : IsEnd (length before) rest
    pub left : claims.left s (length before) history

-- In this history a session of this nexus has attached at the place that is its number, and before that no entry is its own.
pub record IsAttachOf (nexus : Nexus) (session : ℕ) (history : List Entry) : Type 0 where
  pub stands : slice_get history session ≡ Some (Attach nexus)
  pub none_before : counted own session (take session history) ≡ 0

-- Two histories that lead a unit in this state to the same state at each place, and differ in own entries of these sessions alone: each
-- of them stands where the other history has an own entry of the same session.
abbrev pub AreAlike : (ℕ → Type 0) → UnitState → List Entry → List Entry → Type 0
AreAlike sessions s [] [] = Unit {0}
AreAlike sessions s [] (f ∷ more) = ⊥
AreAlike sessions s (e ∷ history) [] = ⊥
AreAlike sessions s (e ∷ history) (f ∷ more) =
    ((f ≡ e) ⊎ ((session : ℕ) × sessions session × (is_own session e ≡ true) × (is_own session f ≡ true)))
    × (after s f ≡ after s e) × AreAlike sessions (after s e) history more

-- it has done nothing at any unit
abbrev pub HasDoneNothing : List Asking → Type 0
HasDoneNothing asks = (unit : ℕ) → done_at unit asks ≡ []

-- A normal session has begun, and at each of the units it has done what stands in the unit's history, as that was seen when it
-- left the unit: through the group of its portal, as the port that its login named.
pub record IsNormal (claims : Claims) (late : Late) (opening : ℕ → UnitState) (units : ℕ) (group : Group) (asks : List Asking)
    (seen : List (ℕ × List Entry)) : Type 0 where
  pub port : Port
  pub tsih : ℕ
  pub front : List Asking
  pub rest : List Asking
  pub began_is : asks ≡ front ++ began port Normal (Begun tsih) ∷ rest
  pub done : (unit : ℕ) → unit < units
      → (one : ℕ × List Entry) × (slice_get seen unit ≡ Some one) × (one.0 ≡ unit)
      × HasDone claims (late_at late unit) (opening unit) (through port group) (done_at unit asks) one.1
  pub none : (unit : ℕ) → units ≤ unit → done_at unit asks ≡ []

-- What a session has asked: it has done nothing at any unit, as where it is a discovery session or its login is refused; or it is a
-- normal session, whose commands that were replied to and whose resets are its entries of the histories that were seen as it left
-- the units, in order.
abbrev pub AreAnswered : Claims → Late → (ℕ → UnitState) → ℕ → Group → List Asking → List (ℕ × List Entry) → Type 0
AreAnswered claims late opening units group asks seen = HasDoneNothing asks ⊎ IsNormal claims late opening units group asks seen
