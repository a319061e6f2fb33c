-- What each end of a move tells.
use Rattle.std.specs.Prelude.{◌≡◌, ℕ, ◌<◌, ◌≤◌, Bool, true, IsTrue, List, Result, Ok, Err}
use Rattle.access_states.specs.Change.{change_between}
use Rattle.access_states.specs.declared.change.Change.{Change}
use Rattle.unit_control.specs.Limits.{last_length}
use Rattle.unit_state.specs.declared.unit.MoveFault.{MoveFault}
use Rattle.unit_state.specs.declared.unit.MoveFault.TheVariants as faults
use Rattle.unit_control.specs.State.{UnitState}
use Rattle.unit_control.specs.Choice.{Choice, Fine, OpenFailed}
use Rattle.unit_control.specs.Groups.{is_moved_by, move_by}
use Rattle.unit_control.specs.Entry.{Move, IsPossible, control_after, blocks_after}

-- The unit moved: the entry was possible, what is left is what the model gives, and the answer says what has changed.
pub record IsMoved (claims : Bool) (old new : UnitState) (list : List ℕ) (told : Change) : Type 0 where
  pub possible : IsPossible claims old (Move list Fine)
  pub control : new.control ≡ control_after old.control (Move list Fine)
  pub blocks : IsTrue claims → new.blocks ≡ blocks_after old (Move list Fine)
  pub tells : told ≡ change_between old.control.access new.control.access

-- It did not: the history has its last length; else the list is one that the access states can't follow; else another
-- group would have owned the unit, for which the device was not opened.
abbrev pub IsMove : Bool → UnitState → UnitState → List ℕ → Result Change MoveFault → Type 0
IsMove claims old new list (Ok told) = IsMoved claims old new list told
IsMove claims old new list (Err faults.Gone) = last_length ≤ old.control.count
IsMove claims old new list (Err (faults.List fault)) =
    (old.control.count < last_length) × (move_by old.control list ≡ Err fault)
IsMove claims old new list (Err faults.OpenFailed) =
    (old.control.count < last_length) × (is_moved_by old.control.access (move_by old.control list) ≡ true)

-- the choice that a move tells: only its open may fail
abbrev pub choice_of_move : Result Change MoveFault → Choice
choice_of_move (Ok told) = Fine
choice_of_move (Err faults.Gone) = Fine
choice_of_move (Err (faults.List fault)) = Fine
choice_of_move (Err faults.OpenFailed) = OpenFailed
