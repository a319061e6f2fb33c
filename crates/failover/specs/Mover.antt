-- The moves that were asked of who moves the units of an array.
use Rattle.std.specs.Prelude.{◌≡◌, ℕ, List, [], ◌∷◌, Option, Some, None, Result, IfOk, IfErr, ⊤}
use Rattle.access_states.specs.declared.change.Change.{Change}
use Rattle.unit_history.specs.Calls.{HasMoved, HasStayed}
use Rattle.unit_entries.specs.Devices.{Devices}
use Rattle.unit_control.specs.Entry.{Entry}
use Rattle.unit_control.specs.State.{UnitState}
use Rattle.unit_state.specs.declared.unit.MoveFault.{MoveFault}

-- A move that was asked of a unit: its place, the parameter list of SET TARGET PORT GROUPS, the history that was seen of the
-- unit, and what the move came to.
pub record Move : Type 0 where
  pub place : ℕ
  pub list : List ℕ
  pub seen : List Entry
  pub end : Result Change MoveFault

-- What a move shows: a legal history of its unit, which ends with it, and what became of the devices; or, where the unit stays,
-- one that shows why.
abbrev pub IsMoveMade : {B R O : Type 0} → Devices B R O → (ℕ → UnitState) → Move → Type 0
IsMoveMade d opening m =
    IfOk m.end (HasMoved d (opening m.place) m.list m.seen) × IfErr m.end (HasStayed d (opening m.place) m.list m.seen)

-- Who moves units knows how many there are, and keeps the moves that were asked of it, the first first, with those that failed.
pub record MoverValue : Type 0 where
  pub unit_count : ℕ
  pub asked : List Move

-- what lies in the places that are taken
abbrev pub kept_in : {X : Type 0} → List (Option X) → List X
kept_in [] = []
kept_in (None ∷ xs) = kept_in xs
kept_in (Some x ∷ xs) = x ∷ kept_in xs

-- the places that are taken are the first ones
abbrev pub AreFirst : {X : Type 0} → List (Option X) → Type 0
AreFirst [] = ⊤
AreFirst (None ∷ xs) = kept_in xs ≡ []
AreFirst (Some x ∷ xs) = AreFirst xs
