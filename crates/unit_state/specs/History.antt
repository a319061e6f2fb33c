-- Histories: entries in order, the first one first.
use Rattle.std.specs.Prelude.{ℕ, zero, suc, Bool, false, not, List, [], ◌∷◌, Option, None}
use Rattle.std.specs.List.{count_by}
use Rattle.scsi_types.specs.ReplyValue.{ReplyValue}
use Rattle.unit_control.specs.State.{UnitState}
use Rattle.unit_control.specs.Choice.{is_fine}
use Rattle.unit_control.specs.Entry.{Entry, Attach, Detach, Reset, Move, Command, IsPossible, IsReplyTo, after, reply_to}

-- the state after a history that began in this state
abbrev pub state_after : UnitState → List Entry → UnitState
state_after s [] = s
state_after s (e ∷ history) = state_after (after s e) history

-- each entry is possible in the state that those before it give
abbrev pub IsLegal : Bool → UnitState → List Entry → Type 0
IsLegal claims s [] = Unit {0}
IsLegal claims s (e ∷ history) = IsPossible claims s e × IsLegal claims (after s e) history

-- the reply of the entry at a place, over a disk
abbrev pub reply_at : UnitState → List Entry → ℕ → Option ReplyValue
reply_at s [] i = None
reply_at s (e ∷ history) zero = reply_to s e
reply_at s (e ∷ history) (suc i) = reply_at (after s e) history i

-- this is the reply of the entry at a place, over any device
abbrev pub IsReplyAt : Bool → UnitState → List Entry → ℕ → ReplyValue → Type 0
IsReplyAt claims s [] i reply = ⊥
IsReplyAt claims s (e ∷ history) zero reply = IsReplyTo claims s e reply
IsReplyAt claims s (e ∷ history) (suc i) reply = IsReplyAt claims (after s e) history i reply

-- how many entries of a history tell of a failure
abbrev pub has_failed : Entry → Bool
has_failed (Attach nexus) = false
has_failed (Detach session) = false
has_failed (Reset session) = false
has_failed (Move list choice) = not (is_fine choice)
has_failed (Command session serial by asked bytes choice) = not (is_fine choice)

abbrev pub failed_entries : List Entry → ℕ
failed_entries history = count_by has_failed history
