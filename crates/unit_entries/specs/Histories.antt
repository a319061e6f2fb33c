-- The history of a unit, and what the unit is behind it.
use Rattle.std.specs.Prelude.{◌≡◌, ◌≤◌, ℕ, Bool, false, IsTrue, nat_eq, if◌then◌else◌, List, [], ◌∷◌, ◌++◌, length}
use Rattle.std.specs.Prelude.{Result, None}
use Rattle.access_states.specs.Change.{change_between}
use Rattle.access_states.specs.declared.change.Change.{Change}
use Rattle.scsi_types.specs.ReplyValue.{ReplyValue}
use Rattle.scsi_types.specs.declared.names.Group.{Group}
use Rattle.scsi_types.specs.declared.command.Command.{Command as ScsiCommand}
use Rattle.scsi_types.specs.declared.command.CdbFault.{CdbFault}
use Rattle.unit_control.specs.State.{UnitState, UnitValue, failures_of, opening}
use Rattle.unit_control.specs.Choice.{Choice, Fine}
use Rattle.unit_control.specs.Entry.{Entry, Attach, Detach, Reset, Move, Command}
use Rattle.unit_state.specs.History.{state_after, IsLegal, IsReplyAt, failed_entries}
use Rattle.unit_state.specs.Serials.{IsOpening, is_command_of}

-- a legal history of a unit that opened in this state
pub record IsHistory (claims : Bool) (s : UnitState) (history : List Entry) : Type 0 where
  pub opens : IsOpening s.control
  pub legal : IsLegal claims s history

-- the entry is one of this session's own: nobody adds it but by the session's pass
abbrev pub is_own : ℕ → Entry → Bool
is_own session (Attach nexus) = false
is_own session (Detach id) = nat_eq id session
is_own session (Reset id) = nat_eq id session
is_own session (Move list choice) = false
is_own session (Command id serial by_group asked bytes choice) = nat_eq id session

-- 1 for such an entry, else 0
abbrev pub own : ℕ → Entry → ℕ
own session entry = if is_own session entry then 1 else 0

-- 1 for a command of this session, else 0
abbrev pub command : ℕ → Entry → ℕ
command session entry = if is_command_of session entry then 1 else 0

-- this entry is this command, whatever the devices did in it
abbrev pub IsCommand : ℕ → ℕ → Group → Result ScsiCommand CdbFault → List ℕ → Entry → Type 0
IsCommand session serial by_group asked bytes entry =
    (choice : Choice) × (entry ≡ Command session serial by_group asked bytes choice)

-- behind this history this entry is answered so
abbrev pub IsToldBehind : Bool → UnitState → List Entry → Entry → ReplyValue → Type 0
IsToldBehind claims s history entry reply = IsReplyAt claims s (history ++ entry ∷ []) (length history) reply

-- The unit is what the history leaves: all but its blocks of every device; its blocks of one that claims its contents; and
-- its devices have counted a failure, at least, for each entry that tells of one.
pub record IsBehind {B R O : Type 0} (claims : Bool) (contents : B → List (List ℕ)) (failures : B → ℕ) (opens_failed : O → ℕ)
    (file_failures : R → ℕ) (s : UnitState) (history : List Entry) (u : UnitValue B R O) : Type 0 where
  pub control : u.control ≡ (state_after s history).control
  pub blocks : IsTrue claims → contents u.device ≡ (state_after s history).blocks
  pub failed : failed_entries history ≤ failures_of failures opens_failed file_failures u

-- what a move tells is what changed by it, behind this history
abbrev pub IsMoveTold : UnitState → List Entry → List ℕ → Change → Type 0
IsMoveTold s history list told = told ≡ change_between (state_after s history).control.access
    (state_after s (history ++ Move list Fine ∷ [])).control.access

-- a state that nothing opened in
abbrev pub no_state : UnitState
no_state =
    opening (record { unit = 0; units = 0; array = 0 }) 0 []
    (record { aptpl = false; registrants = []; reservation = None })
