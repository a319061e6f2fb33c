-- Who makes the flushes that come behind their commands, and what such a command comes to.
use Rattle.std.specs.Prelude.{◌≡◌, ℕ, Bool, false, Result, Ok, Err}
use Rattle.unit_lock.specs.Calls.{PlacedPass}
use Rattle.scsi_types.specs.ReplyValue.{ReplyValue}
use Rattle.unit_events.specs.Flushes.{IsToldBehindFlush}
use Rattle.unit_control.specs.Entry.{Entry}
use Rattle.session_units.specs.declared.units.Unserved.{Unserved}

-- What is known of those who flush: whether it is ever left to them, and that a flush is done that began when a session's pass was
-- this.
pub record Late : Type 1 where
  pub is_late : Bool
  pub lasts : PlacedPass Entry → Type 0

abbrev pub late_of : Bool → (PlacedPass Entry → Type 0) → Late
late_of is_late lasts = record { is_late = is_late; lasts = lasts }

-- of the unit at this place
abbrev pub late_at : Late → ℕ → Late
late_at late unit = record { is_late = late.is_late; lasts = λ pass. (pass.place ≡ unit) × late.lasts pass }

-- no flush is ever left to them
abbrev pub never : Late
never = late_of false (λ pass. ⊥)

-- what a command comes to whose flush came behind it
abbrev pub IsToldEnd : Type 0 → Result ReplyValue Unserved → Result ReplyValue Unserved → Type 0
IsToldEnd lasts (Ok reply) (Ok told) = IsToldBehindFlush lasts reply told
IsToldEnd lasts (Ok reply) (Err why) = ⊥
IsToldEnd lasts (Err why) (Ok told) = ⊥
IsToldEnd lasts (Err why) (Err same) = same ≡ why
