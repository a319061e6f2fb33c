-- What a reader is shown of a unit.
use Rattle.std.specs.Prelude.{ℕ, Bool, List}
use mathlib.Core.List.{IsPrefix}
use Rattle.status.specs.declared.row.Row.{Row}
use Rattle.unit_control.specs.State.{UnitState}
use Rattle.unit_control.specs.Entry.{Entry}
use Rattle.unit_history.specs.Calls.{IsShown}

-- The board of the unit at a place was read by a seat that had seen this history of it, and this one since, of which this is the row.
-- The word stands for its name: only the proof of the read of a board (`read` of `Seated`) cites what gives it.
pub has_read : ℕ → List Entry → Row → List Entry → Type 0
has_read place before row after = Unit {0}

pub a_read_says : (place : ℕ) (before : List Entry) (row : Row) (after : List Entry) → has_read place before row after
unfolding has_read
a_read_says place before row after = tt

-- The row of a legal history that begins with that of each row which its seat had read before.
pub record IsRead (claims : Bool) (s : UnitState) (place : ℕ) (row : Row) : Type 0 where
  pub shown : IsShown claims s row
  pub before : List Entry
  pub begins : IsPrefix before shown.history
  pub read : has_read place before row shown.history
