-- The moves by which a controller goes down.
use Rattle.std.specs.Prelude.{◌≡◌, ◌<◌, ◌++◌, ℕ, List, [], ◌∷◌, length, Some, slice_get, Ok, Err}
use Rattle.access_states.specs.declared.change.Change.{Change}
use Rattle.scsi_types.specs.declared.names.Group.{Group}
use Rattle.scsi_types.specs.declared.names.Group.TheVariants.{One, Two}
use Rattle.unit_state.specs.declared.unit.MoveFault.{MoveFault}
use Rattle.failover.specs.Mover.{Move}

-- The parameter list of SET TARGET PORT GROUPS (SPC-4, 6.45) by which a controller goes down: four reserved bytes; the other
-- group, active/optimized (0); its own, unavailable (3).
abbrev pub down_list : Group → List ℕ
down_list One = 0 ∷ 0 ∷ 0 ∷ 0 ∷ 0 ∷ 0 ∷ 0 ∷ 2 ∷ 3 ∷ 0 ∷ 0 ∷ 1 ∷ []
down_list Two = 0 ∷ 0 ∷ 0 ∷ 0 ∷ 0 ∷ 0 ∷ 0 ∷ 1 ∷ 3 ∷ 0 ∷ 0 ∷ 2 ∷ []

-- Of what a move shows no more is said here than that it is shown.
module _ (made : Move → Type 0) (controller : Group) where
  -- the unit at this place was asked to move so
  abbrev pub IsAsked : ℕ → Move → Type 0
  IsAsked place m = (m.place ≡ place) × (m.list ≡ down_list controller) × made m

  -- these are a move of each of the first units, in their order, and no other
  pub record AreDown (count : ℕ) (moves : List Move) : Type 0 where
    pub few : length moves ≡ count
    pub each : (place : ℕ) → place < count → (m : Move) × (slice_get moves place ≡ Some m) × IsAsked place m
        × ((told : Change) × (m.end ≡ Ok told))

  -- they are followed by that of the next unit, which stays, and by no other
  abbrev pub IsStopped : ℕ → MoveFault → List Move → Type 0
  IsStopped place why moves =
      (before : List Move) × (last : Move) × (moves ≡ before ++ last ∷ []) × AreDown place before
      × IsAsked place last × (last.end ≡ Err why)
