-- Where a command goes, and what lets it through.
use Rattle.std.specs.Prelude.{◌≡◌, ◌≢◌, ℕ, ◌≤◌, List, Some, None, Ok}
use Rattle.access_states.specs.AccessMap.{owner_of}
use Rattle.registrants.specs.Registry.{RecordValue}
use Rattle.scsi_types.specs.declared.names.Group.{Group}
use Rattle.scsi_types.specs.declared.command.Command.{Command}
use Rattle.unit_control.specs.declared.control.Route.{Route}
use Rattle.unit_control.specs.declared.control.Route.TheVariants.{Gone, Moved, At}
use Rattle.unit_control.specs.declared.refusal.Refusal.{Refusal}
use Rattle.unit_control.specs.State.{ControlValue}
use Rattle.unit_control.specs.Places.{IsPlaceOf}
use Rattle.unit_control.specs.Choice.{Fine, choice_of}
use Rattle.unit_control.specs.Medium.{Fits, work_of}
use Rattle.unit_control.specs.Refusal.{Request, refusal, refusal_reply}
use Rattle.unit_control.specs.Entry.{IsNext}
use Rattle.unit_control.specs.Reserve.{HasList}

-- to nobody, to the owner, or to the unit: no serial passes the count of entries
abbrev pub IsRouteOf : ControlValue → ℕ → ℕ → Group → Route → Type 0
IsRouteOf c session serial by Gone = IsNext c session serial → ⊥
IsRouteOf c session serial by (Moved owner) =
    IsNext c session serial × (by ≢ owner_of c.access) × (owner ≡ owner_of c.access)
IsRouteOf c session serial by (At at) = IsNext c session serial × (by ≡ owner_of c.access)
    × IsPlaceOf c.sessions session at × (serial ≤ c.count)

-- no rule refuses the command
pub record IsAdmitted (c : ControlValue) (r : Request) (command : Command) : Type 0 where
  pub asks : r.asked ≡ Ok command
  pub unrefused : refusal c r ≡ None
  pub fits : Fits c.total (work_of command r.bytes)
  pub list : HasList c command r.bytes

-- a rule refuses it, which tells of no failure
pub record IsRefused (c : ControlValue) (r : Request) (refused : Refusal) : Type 0 where
  pub refuses : refusal c r ≡ Some refused
  pub fine : (after : List (List ℕ)) (lasting : List RecordValue) → choice_of (refusal_reply refused) after lasting ≡ Fine
