-- What the units of an array say of a session that has left one. The word stands for its name: only the proof of the call that ends a
-- session there (`retire` of `controllers`) cites what gives it.
use Rattle.std.specs.Prelude.{ℕ, List}
use Rattle.unit_control.specs.State.{UnitState}
use Rattle.unit_control.specs.Entry.{Entry}

-- the session with this number has left a unit that opened in this state, where this history was seen
pub has_left : UnitState → ℕ → List Entry → Type 0
has_left s session history = Unit {0}

pub an_end_says : (s : UnitState) (session : ℕ) (history : List Entry) → has_left s session history
unfolding has_left
an_end_says s session history = tt
