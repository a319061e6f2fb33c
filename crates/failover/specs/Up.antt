-- The moves by which units become again as they open.
use Rattle.std.specs.Prelude.{◌≡◌, ◌++◌, ℕ, zero, suc, List, [], ◌∷◌, Bool, true, false, Ok, Err, All, map, slice_index_or, if◌then◌else◌}
use Rattle.access_states.specs.declared.change.Change.{Change}
use Rattle.scsi_types.specs.declared.names.Group.{Group}
use Rattle.scsi_types.specs.declared.names.Group.TheVariants.{One, Two}
use Rattle.unit_control.specs.State.{preferred}
use Rattle.unit_state.specs.declared.unit.MoveFault.{MoveFault}
use Rattle.failover.specs.Mover.{Move}

-- The parameter list of SET TARGET PORT GROUPS (SPC-4, 6.45) by which a unit is as it opens: four reserved bytes; the group that it
-- prefers, active/optimized (0); the other, active/non-optimized (1).
abbrev pub up_list : Group → List ℕ
up_list One = 0 ∷ 0 ∷ 0 ∷ 0 ∷ 0 ∷ 0 ∷ 0 ∷ 1 ∷ 1 ∷ 0 ∷ 0 ∷ 2 ∷ []
up_list Two = 0 ∷ 0 ∷ 0 ∷ 0 ∷ 0 ∷ 0 ∷ 0 ∷ 2 ∷ 1 ∷ 0 ∷ 0 ∷ 1 ∷ []

-- the places below a count that are chosen, in their order
abbrev pub chosen_below : List Bool → ℕ → List ℕ
chosen_below chosen zero = []
chosen_below chosen (suc n) = chosen_below chosen n ++ (if slice_index_or chosen n false then n ∷ [] else [])

module _ (made : Move → Type 0) (chosen : List Bool) where
  -- a unit was asked to be as it opens
  abbrev pub IsAskedUp : Move → Type 0
  IsAskedUp m = (m.list ≡ up_list (preferred m.place)) × made m

  -- these are a move of each of the first units that is chosen, in their order, and no other
  pub record AreUp (count : ℕ) (moves : List Move) : Type 0 where
    pub places : map (λ m. m.place) moves ≡ chosen_below chosen count
    pub each : All (λ m. IsAskedUp m × ((told : Change) × (m.end ≡ Ok told))) moves

  -- they are followed by that of the next unit that is chosen, which stays, and by no other
  abbrev pub IsStoppedUp : ℕ → MoveFault → List Move → Type 0
  IsStoppedUp place why moves =
      (before : List Move) × (last : Move) × (moves ≡ before ++ last ∷ []) × AreUp place before
      × IsAskedUp last × (last.place ≡ place) × (slice_index_or chosen place false ≡ true) × (last.end ≡ Err why)
