-- What an event makes of one unit: whatever history leads to the unit, what one it has then.
use Rattle.std.specs.Prelude.{◌≡◌, ◌⊎◌, ℕ, ◌+◌, Bool, List, [], ◌∷◌, ◌++◌, length, Option, Some, None}
use Rattle.unit_control.specs.State.{UnitState, UnitValue}
use Rattle.unit_control.specs.Choice.{Choice}
use Rattle.unit_control.specs.Entry.{Entry, Attach, Command}
use Rattle.unit_entries.specs.NoEntry.{IsFull, IsSessionGone, IsOwner, TakesMemoryBehind}
use Rattle.unit_entries.specs.Histories.{IsBehind, IsHistory, IsToldBehind, command}
use Rattle.unit_lock.specs.Calls.{IsCause}
use Rattle.scsi_types.specs.Nexus.{Nexus}
use Rattle.status.specs.Views.{counted}
use Rattle.unit_events.specs.declared.job.End.{End}
use Rattle.unit_events.specs.declared.job.End.TheVariants.{Replied, Refused as IsRefused}
use Rattle.unit_events.specs.declared.job.Job.{Job}

module _ {B R O : Type 0} (claims : Bool) (contents : B → List (List ℕ)) (failures : B → ℕ) (opens_failed : O → ℕ)
    (file_failures : R → ℕ) where
  -- What a call of one unit makes of any history that leads to it: one entry more, or none for this cause.
  abbrev pub IsUnitEntry : Entry → (UnitState → List Entry → Type 0) → UnitValue B R O → UnitValue B R O → Type 0
  IsUnitEntry e why old new =
      (s : UnitState) (h : List Entry) → IsHistory claims s h
      → IsBehind claims contents failures opens_failed file_failures s h old
      → (IsHistory claims s (h ++ e ∷ []) × IsBehind claims contents failures opens_failed file_failures s (h ++ e ∷ []) new)
      ⊎ (why s h × IsBehind claims contents failures opens_failed file_failures s h new)

  -- the same, of an attach, which tells the place of its entry
  abbrev pub IsUnitAttach : Nexus → Option ℕ → UnitValue B R O → UnitValue B R O → Type 0
  IsUnitAttach nexus (Some id) old new =
      (s : UnitState) (h : List Entry) → IsHistory claims s h
      → IsBehind claims contents failures opens_failed file_failures s h old
      → (id ≡ length h) × IsHistory claims s (h ++ Attach nexus ∷ [])
      × IsBehind claims contents failures opens_failed file_failures s (h ++ Attach nexus ∷ []) new
  IsUnitAttach nexus None old new =
      (s : UnitState) (h : List Entry) → IsHistory claims s h
      → IsBehind claims contents failures opens_failed file_failures s h old
      → IsBehind claims contents failures opens_failed file_failures s h new × IsFull s h nexus

  -- and of a command, which is its session's next
  abbrev pub IsUnitServed : UnitState → List Entry → ℕ → ℕ → Job → UnitValue B R O → End → Type 0
  IsUnitServed s h id serial job new (Replied reply at next) =
      (choice : Choice) × (at ≡ length h) × (next ≡ serial + 1)
      × IsHistory claims s (h ++ Command id serial job.by_group job.asked job.bytes choice ∷ [])
      × IsBehind claims contents failures opens_failed file_failures s
      (h ++ Command id serial job.by_group job.asked job.bytes choice ∷ []) new
      × IsToldBehind claims s h (Command id serial job.by_group job.asked job.bytes choice) reply
  IsUnitServed s h id serial job new (IsRefused why) =
      IsBehind claims contents failures opens_failed file_failures s h new
      × IsCause (IsSessionGone s h id) (IsOwner s h) (TakesMemoryBehind s h id job.asked job.bytes) job.by_group why

  abbrev pub IsUnitServing : ℕ → ℕ → Job → UnitValue B R O → UnitValue B R O → End → Type 0
  IsUnitServing id serial job old new end =
      (s : UnitState) (h : List Entry) → IsHistory claims s h
      → IsBehind claims contents failures opens_failed file_failures s h old → counted command id h + 1 ≡ serial
      → IsUnitServed s h id serial job new end
