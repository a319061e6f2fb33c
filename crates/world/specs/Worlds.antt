-- What a world is behind a list of events.
use Rattle.std.specs.Prelude.{◌≡◌, ℕ, Bool, List, length, Option, Some, None, IfSome, MatchOption, slice_get}
use Rattle.unit_control.specs.State.{UnitState, UnitValue, state_of}
use Rattle.unit_control.specs.Entry.{Entry}
use Rattle.unit_entries.specs.Histories.{IsBehind, no_state}
use Rattle.world.specs.Events.{Scene, scene, AreSteps, IsReached, IsStep}
use Rattle.world.specs.Orders.{IsOrderly}
use Rattle.world.specs.Traffic.{Traffic}
use Rattle.world.specs.declared.event.Event.{Event}

-- What contracts see of a world: its units, with their devices, and what is on its way.
pub record WorldValue (B R O : Type 0) : Type 0 where
  pub units : List (UnitValue B R O)
  pub traffic : Traffic

-- the state of the unit at a place
abbrev pub opened : {B R O : Type 0} → (B → List (List ℕ)) → Option (UnitValue B R O) → UnitState
opened contents (Some u) = state_of contents u
opened contents None = no_state

abbrev pub opening_of : {B R O : Type 0} → (B → List (List ℕ)) → List (UnitValue B R O) → ℕ → UnitState
opening_of contents units place = opened contents (slice_get units place)

-- this is how many entries the unit of a session has had
abbrev pub IsCountAt : {B R O : Type 0} → WorldValue B R O → ℕ → ℕ → Type 0
IsCountAt v place count = MatchOption (slice_get v.units place) (count ≡ 0) (λ u. count ≡ u.control.count)

abbrev pub IsCountOf : {B R O : Type 0} → WorldValue B R O → ℕ → ℕ → Type 0
IsCountOf v n count = IfSome (slice_get v.traffic.sessions n) (λ x. IsCountAt v x.place count)

module _ {B R O : Type 0} (claims : Bool) (contents : B → List (List ℕ)) (failures : B → ℕ) (opens_failed : O → ℕ)
    (file_failures : R → ℕ) where
  -- Each unit is what its history leaves.
  abbrev pub AreBehind : (ℕ → UnitState) → (ℕ → List Entry) → List (UnitValue B R O) → Type 0
  AreBehind opening past units =
      (place : ℕ) (u : UnitValue B R O) → slice_get units place ≡ Some u
      → IsBehind claims contents failures opens_failed file_failures (opening place) (past place) u

  abbrev pub scene_of : (ℕ → List Entry) → WorldValue B R O → Scene
  scene_of past v = scene past v.traffic

  -- The world has these histories, to which events led.
  pub record Stands (opening : ℕ → UnitState) (past : ℕ → List Entry) (v : WorldValue B R O) : Type 0 where
    pub reached : IsReached claims (length v.units) opening (scene_of past v)
    pub behind : AreBehind opening past v.units

  -- What an event makes of any histories that the world has.
  abbrev pub Happens : Event → WorldValue B R O → WorldValue B R O → Type 0
  Happens event old new =
      (opening : ℕ → UnitState) (past : ℕ → List Entry) → Stands opening past old
      → (after : ℕ → List Entry) × IsStep claims (length old.units) opening (scene_of past old) event (scene_of after new)
      × Stands opening after new × (length new.units ≡ length old.units)

  -- And what a list of events makes of them: the steps of each in their order, and the order of all that the array promises.
  abbrev pub AllHappen : List Event → WorldValue B R O → WorldValue B R O → Type 0
  AllHappen events old new =
      (opening : ℕ → UnitState) (past : ℕ → List Entry) → Stands opening past old
      → (after : ℕ → List Entry)
      × AreSteps claims (length old.units) opening (scene_of past old) events (scene_of after new)
      × Stands opening after new × IsOrderly claims opening (scene_of after new) × (length new.units ≡ length old.units)
