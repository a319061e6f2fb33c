-- The turns in which normal sessions begin. What is said of them stands for its name: only the proof of the call that attaches in a turn
-- (`attach_in_turn`) cites what gives it.
use Rattle.std.specs.Prelude.{List}
use Rattle.session_units.specs.Submitted.{At}

-- A session was attached to these units in this turn, as it was when the last of them had attached it.
pub were_attached : {T : Type 0} → T → List At → Type 0
were_attached turn at = Unit {0}

pub an_attach_says : {T : Type 0} (turn : T) (at : List At) → were_attached turn at
unfolding were_attached
an_attach_says turn at = tt
